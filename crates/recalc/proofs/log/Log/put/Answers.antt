use Rattle.std.proofs.Common.{rules}
use Rattle.recalc.specs.Replacing.{entries}
use Rattle.recalc.proofs.ReplacingLaws.{put_can_be_put_back}
use Rattle.recalc.proofs.log.Log.put.Goals as goal

pub returns-clause-can : goal.returns-clause-can
returns-clause-can c =
    put_can_be_put_back (entries c.args.self.now) (entries (record { entries = c.push_reserved.new.self })) c.args.store.now.cells c.put-cell.new.self.cells c.args.slot
    (record { res = c.args.res; stamp = c.args.stamp }) (search rules) (search rules) c.requires
