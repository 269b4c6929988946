use Rattle.std.proofs.Common.{map, sym, ap, ◌∙◌}
use Rattle.std.proofs.lemmas.List.{take_all}
use Rattle.dict_source.specs.Dictionary.{dictionary_view}
use Rattle.node_eval.specs.View.{case_view as node_case_view, cases_of, trees_of, view as node_view}
use Rattle.node_compile.proofs.OperandLaws.{all_resolved, cases_resolved, next_compiled, node_case_of, node_of}
use Rattle.node_compile.proofs.expression.+compile.Goals as goal

pub compile_all-returns : goal.compile_all-returns
compile_all-returns t c =
    let d = dictionary_view c.args.source.now in
    ap trees_of (c.loop-operand.invariant ∙ ap (map (node_of d c.args.fact c.args.base)) (take_all c.loop-operand.operand-index c.args.operands.now c.loop-operand-test.false))
    ∙ sym (all_resolved d c.args.fact c.args.base c.args.operands.now)

pub compile_cases-returns : goal.compile_cases-returns
compile_cases-returns t c =
    let d = dictionary_view c.args.source.now in
    ap cases_of (c.loop-case.invariant ∙ ap (map (node_case_of d c.args.fact c.args.base)) (take_all c.loop-case.case-index c.args.cases.now c.loop-case-test.false))
    ∙ sym (cases_resolved d c.args.fact c.args.base c.args.cases.now)

pub compile_all-loop-operand-preserved : goal.compile_all-loop-operand-preserved
compile_all-loop-operand-preserved t c =
    next_compiled node_view (node_of (dictionary_view c.args.source.now) c.args.fact c.args.base) c.args.operands.now c.loop-operand.operand-index c.operand-item.result c.loop-operand.nodes.items c.push.new.self.items c.in_ok-node.node
    c.loop-operand-test.true c.operand-item.is c.loop-operand.invariant c.in_ok-node.ensures c.in_ok-push.ensures.items

pub compile_cases-loop-case-preserved : goal.compile_cases-loop-case-preserved
compile_cases-loop-case-preserved t c =
    next_compiled node_case_view (node_case_of (dictionary_view c.args.source.now) c.args.fact c.args.base) c.args.cases.now c.loop-case.case-index c.case-item.result c.loop-case.nodes.items c.push.new.self.items c.in-Ok.case
    c.loop-case-test.true c.case-item.is c.loop-case.invariant c.in-Ok.ensures c.in_ok-push-in-Ok.ensures.items
