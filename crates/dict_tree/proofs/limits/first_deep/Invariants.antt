use Rattle.std.proofs.Common.{◌≡◌, ◌+◌, drop, map}
use Rattle.std.specs.Prelude.{not}
use Rattle.dict_source.specs.Facts.{fact_view, fact_within}
use Rattle.dict_source.specs.Dictionary.{number_from}
use Rattle.dict_tree.proofs.limits.first_deep.Given as goal

abbrev pub invariant-loop-fact : goal.invariant-loop-fact
invariant-loop-fact l = record {
  count : l.number ≡ l.fact-index + 1;
  rest : number_from (λ f. not (fact_within 48 f)) l.number (map fact_view (drop l.fact-index l.facts)) ≡ number_from (λ f. not (fact_within 48 f)) 1 (map fact_view l.facts);
}
