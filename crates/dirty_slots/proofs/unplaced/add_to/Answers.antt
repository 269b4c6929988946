use Rattle.dirty_slots.proofs.DirtyLaws.{added}
use Rattle.dirty_slots.proofs.unplaced.add_to.Goals as goal

pub returns-clause-ok : goal.returns-clause-ok
returns-clause-ok c = λ q. added c.args.set.now.keys c.insert.new.self.keys c.args.dirty q (c.in_ok-insert.ensures.updates.0 q)
