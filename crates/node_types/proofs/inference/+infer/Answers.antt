use Rattle.std.proofs.Common.{◌+◌, drop, ap, arith, add-one}
use Rattle.dict_source.specs.Dictionary.{dictionary_view}
use Rattle.dict_source.specs.Tree.{size_of_cases, size_of_trees}
use Rattle.dict_source.specs.View.{case_view, cases_of, cases_view, trees_of, trees_view, view}
use Rattle.node_types.specs.FactTyping.{types_in}
use Rattle.node_types.proofs.InferLaws.{cases_next, types_next}
use Rattle.node_types.proofs.OneByOneLaws.{left_next}
use Rattle.node_types.proofs.inference.+infer.Goals as goal

pub infer_all-loop-operand-preserved : goal.infer_all-loop-operand-preserved
infer_all-loop-operand-preserved t c =
    let i = c.loop-operand.operand-index in
    let operands = c.args.operands.now in
    let left = ap trees_of (left_next view operands i (i + 1) c.operand-item.result c.loop-operand-test.true c.operand-item.is (add-one i)) in
    record {
      count = omega (arith, c.loop-operand.invariant.count, ap size_of_trees left, c.in_ok-found.ensures.count);
      rest = types_next (types_in (dictionary_view c.args.source.now) c.args.fact) c.args.base c.loop-operand.next _ (trees_view (drop i operands)) (trees_view (drop (i + 1) operands)) (view c.operand-item.result) c.in_ok-found.found c.loop-operand.types.items c.push.new.self.items _
          left c.in_ok-found.ensures.count c.loop-operand.invariant.rest c.in_ok-found.ensures.found c.in_ok-push.ensures.items;
    }

pub infer_cases-loop-case-preserved : goal.infer_cases-loop-case-preserved
infer_cases-loop-case-preserved t c =
    let i = c.loop-case.case-index in
    let cases = c.args.cases.now in
    let left = ap cases_of (left_next case_view cases i (i + 1) c.case-item.result c.loop-case-test.true c.case-item.is (add-one i)) in
    record {
      count = omega (arith, c.loop-case.invariant.count, ap size_of_cases left, c.in_ok-test.ensures.count, c.in_ok-outcome.ensures.count);
      rest = cases_next (types_in (dictionary_view c.args.source.now) c.args.fact) c.args.base c.loop-case.next _ _ (cases_view (drop i cases)) (cases_view (drop (i + 1) cases)) (view c.case-item.result.test) (view c.case-item.result.outcome) c.in_ok-test.test c.in_ok-outcome.outcome c.loop-case.types.items c.push.new.self.items _
          left c.in_ok-test.ensures.count c.in_ok-outcome.ensures.count c.loop-case.invariant.rest c.in_ok-test.ensures.found c.in_ok-outcome.ensures.found c.in_ok-push.ensures.items;
    }
