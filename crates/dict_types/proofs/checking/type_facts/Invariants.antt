-- What is typed so far, and what is left, is all.
use Rattle.std.proofs.Common.{◌≡◌, ◌+◌, ◌++◌, drop, map, Ok}
use Rattle.dict_source.specs.Dictionary.{dictionary_view}
use Rattle.dict_source.specs.Facts.{fact_view}
use Rattle.node_types.specs.Inferring.{◌>>=◌}
use Rattle.dict_types.specs.Typed.{typed_facts}
use Rattle.dict_types.proofs.checking.type_facts.Given as goal

abbrev pub invariant-loop-i : goal.invariant-loop-i
invariant-loop-i l = (typed_facts (dictionary_view l.source) (l.i + 1) (map fact_view (drop l.i l.facts)) >>= λ ts. Ok (l.out.items ++ ts)) ≡ typed_facts (dictionary_view l.source) 1 (map fact_view l.facts)
