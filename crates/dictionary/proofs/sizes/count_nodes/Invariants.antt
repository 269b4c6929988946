-- The nodes so far, with those of the facts that are left, are all.
use Rattle.std.proofs.Common.{◌≡◌, ◌+◌, drop, map}
use Rattle.std.specs.Prelude.{sum_by}
use Rattle.dict_source.specs.Facts.{fact_size, fact_view}
use Rattle.dictionary.proofs.sizes.count_nodes.Given as goal

abbrev pub invariant-loop-fact : goal.invariant-loop-fact
invariant-loop-fact l = l.count + sum_by fact_size (map fact_view (drop l.fact-index l.facts)) ≡ sum_by fact_size (map fact_view l.facts)
