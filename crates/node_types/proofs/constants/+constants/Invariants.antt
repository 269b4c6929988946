-- What is noted so far, and what is left to note.
use Rattle.std.proofs.Common.{◌≡◌, ◌++◌, drop, map}
use Rattle.dict_source.specs.View.{case_view, cases_of, trees_of, view}
use Rattle.node_types.specs.Constants.{case_values, tree_values}
use Rattle.node_types.proofs.constants.+constants.Given as goal

abbrev pub invariant-note_all-loop-operand : goal.invariant-note_all-loop-operand
invariant-note_all-loop-operand l = l.out.items ++ tree_values l.enums (trees_of (drop l.operand-index (map view l.operands))) ≡ l.initial.out.items ++ tree_values l.enums (trees_of (map view l.operands))

abbrev pub invariant-note_cases-loop-case : goal.invariant-note_cases-loop-case
invariant-note_cases-loop-case l = l.out.items ++ case_values l.enums (cases_of (drop l.case-index (map case_view l.cases))) ≡ l.initial.out.items ++ case_values l.enums (cases_of (map case_view l.cases))
