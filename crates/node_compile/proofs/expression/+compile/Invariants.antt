-- What is compiled so far are the nodes of what is passed.
use Rattle.std.proofs.Common.{◌≡◌, map, take}
use Rattle.dict_source.specs.Dictionary.{dictionary_view}
use Rattle.node_eval.specs.View.{case_view as node_case_view, view as node_view}
use Rattle.node_compile.proofs.OperandLaws.{node_case_of, node_of}
use Rattle.node_compile.proofs.expression.+compile.Given as goal

abbrev pub invariant-compile_all-loop-operand : goal.invariant-compile_all-loop-operand
invariant-compile_all-loop-operand l = map node_view l.nodes.items ≡ map (node_of (dictionary_view l.source) l.fact l.base) (take l.operand-index l.operands)

abbrev pub invariant-compile_cases-loop-case : goal.invariant-compile_cases-loop-case
invariant-compile_cases-loop-case l = map node_case_view l.nodes.items ≡ map (node_case_of (dictionary_view l.source) l.fact l.base) (take l.case-index l.cases)
