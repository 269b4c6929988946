use Rattle.std.proofs.Common.{◌∙◌}
use Rattle.recalc.proofs.ReplacingLaws.{last_there, one_back, rest_can}
use Rattle.recalc.proofs.log.Log.put_back.Goals as goal

pub loop-entry-preserved : goal.loop-entry-preserved
loop-entry-preserved c =
    let all = c.loop-entry.self.entries.items in
    let left = c.pop.new.self.items in
    record {
      can = rest_can all left c.in-Some.entry c.loop-entry.store.cells c.put_one_back.new.store.cells c.in-Some.ensures.items c.put_one_back.ensures c.loop-entry.invariant.can;
      back = one_back all left c.in-Some.entry c.loop-entry.store.cells c.put_one_back.new.store.cells c.in-Some.ensures.items c.put_one_back.ensures ∙ c.loop-entry.invariant.back;
    }

pub put_one_back-requires : goal.put_one_back-requires
put_one_back-requires c = last_there c.loop-entry.self.entries.items c.pop.new.self.items c.in-Some.entry c.loop-entry.store.cells c.in-Some.ensures.items c.loop-entry.invariant.can
