use Rattle.std.proofs.Common.{◌+◌, map, drop, add-one}
use Rattle.dict_source.specs.View.{case_view, view}
use Rattle.dict_source.proofs.FindingLaws.{drop-view}
use Rattle.node_types.proofs.ValueLaws.{tree_next, case_next}
use Rattle.node_types.proofs.constants.+constants.Goals as goal

pub note_all-loop-operand-preserved : goal.note_all-loop-operand-preserved
note_all-loop-operand-preserved t c =
    let i = c.loop-operand.operand-index in
    let views = map view c.args.operands.now in
    let left = drop-view view c.args.operands.now i (i + 1) c.operand-item.result c.loop-operand-test.true c.operand-item.is (add-one i) in
    tree_next c.args.enums.now (drop i views) (drop (i + 1) views) (view c.operand-item.result) c.loop-operand.out.items c.note_expr.new.out.items _ left c.loop-operand.invariant c.in_ok-note_expr.ensures

pub note_cases-loop-case-preserved : goal.note_cases-loop-case-preserved
note_cases-loop-case-preserved t c =
    let i = c.loop-case.case-index in
    let views = map case_view c.args.cases.now in
    let left = drop-view case_view c.args.cases.now i (i + 1) c.case-item.result c.loop-case-test.true c.case-item.is (add-one i) in
    case_next c.args.enums.now (drop i views) (drop (i + 1) views) (case_view c.case-item.result) c.loop-case.out.items c.note_expr.new.out.items c.note_expr-in-loop-case.new.out.items _ left c.loop-case.invariant c.in_ok-note_expr.ensures c.in_ok-note_expr-2.ensures
