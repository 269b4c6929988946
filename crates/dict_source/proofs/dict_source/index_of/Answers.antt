use Rattle.std.proofs.Common.{◌≡◌, ◌+◌, suc, map, add-one}
use Rattle.dict_source.specs.Facts.{fact_view}
use Rattle.dict_source.proofs.FindingLaws.{drop-view}
use Rattle.dict_source.proofs.PathIndexLaws.{IsIndexSoFar-next}
use Rattle.dict_source.proofs.dict_source.index_of.Goals as goal

pub loop-i-preserved : goal.loop-i-preserved
loop-i-preserved c =
    let next : c.loop-i.i + 1 ≡ suc c.loop-i.i = add-one c.loop-i.i in
    let left = drop-view fact_view c.args.facts.now c.loop-i.i (c.loop-i.i + 1) c.index-facts-i.result c.loop-i-test.true c.index-facts-i.is next in
    IsIndexSoFar-next (map fact_view c.args.facts.now) c.loop-i.index c.note_fact.new.index c.loop-i.i (c.loop-i.i + 1) (c.loop-i.i + 1) (fact_view c.index-facts-i.result) left c.loop-i.invariant c.in_ok-note_fact.ensures.noted next next
