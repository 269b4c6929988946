-- The limits so far, and those of what is left, are all.
use Rattle.std.proofs.Common.{◌≡◌, ◌+◌, ◌++◌, drop, map, Ok}
use Rattle.text_checks.specs.Tables.{check_names}
use Rattle.dict_source.specs.Dictionary.{dictionary_view}
use Rattle.dict_source.specs.Facts.{fact_view}
use Rattle.node_types.specs.Inferring.{◌>>=◌}
use Rattle.dict_types.specs.Typed.{limits_of}
use Rattle.dict_types.proofs.checking.limits_of_facts.Given as goal

abbrev pub invariant-loop-i : goal.invariant-loop-i
invariant-loop-i g l = (limits_of (check_names l.checks) (dictionary_view l.source) (l.i + 1) (map fact_view (drop l.i l.facts)) >>= λ ls. Ok (l.out.items ++ ls)) ≡ limits_of (check_names l.checks) (dictionary_view l.source) 1 (map fact_view l.facts)
