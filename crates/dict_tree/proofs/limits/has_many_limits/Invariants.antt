use Rattle.std.proofs.Common.{◌≡◌, drop, map, length}
use Rattle.std.specs.Prelude.{nat_lt}
use Rattle.std.specs.List.{list_any}
use Rattle.dict_source.specs.Facts.{fact_view}
use Rattle.dict_tree.proofs.limits.has_many_limits.Given as goal

abbrev pub invariant-loop-fact : goal.invariant-loop-fact
invariant-loop-fact l = list_any (λ f. nat_lt 8 (length f.limits)) (map fact_view (drop l.fact-index l.facts)) ≡ list_any (λ f. nat_lt 8 (length f.limits)) (map fact_view l.facts)
