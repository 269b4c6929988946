-- The types that are found so far, and the nodes that are left.
use Rattle.std.proofs.Common.{◌≡◌, ◌+◌, ◌++◌, drop, Ok}
use Rattle.dict_source.specs.Dictionary.{dictionary_view}
use Rattle.dict_source.specs.Tree.{size_of_cases, size_of_trees}
use Rattle.dict_source.specs.View.{cases_view, trees_view}
use Rattle.node_types.specs.FactTyping.{types_in}
use Rattle.node_types.specs.Inferring.{◌>>=◌, case_types, types_of}
use Rattle.node_types.proofs.inference.+infer.Given as goal

abbrev pub invariant-infer_all-loop-operand : goal.invariant-infer_all-loop-operand
invariant-infer_all-loop-operand l = record {
  count : l.next + size_of_trees (trees_view (drop l.operand-index l.operands)) ≡ l.initial.next + size_of_trees (trees_view l.operands);
  rest : (types_of (types_in (dictionary_view l.source) l.fact) l.next l.base (trees_view (drop l.operand-index l.operands)) >>= λ us. Ok (l.types.items ++ us)) ≡ types_of (types_in (dictionary_view l.source) l.fact) l.initial.next l.base (trees_view l.operands);
}

abbrev pub invariant-infer_cases-loop-case : goal.invariant-infer_cases-loop-case
invariant-infer_cases-loop-case l = record {
  count : l.next + size_of_cases (cases_view (drop l.case-index l.cases)) ≡ l.initial.next + size_of_cases (cases_view l.cases);
  rest : (case_types (types_in (dictionary_view l.source) l.fact) l.next l.base (cases_view (drop l.case-index l.cases)) >>= λ us. Ok (l.types.items ++ us)) ≡ case_types (types_in (dictionary_view l.source) l.fact) l.initial.next l.base (cases_view l.cases);
}
