-- What is left to evaluate gives the rest of the result, and of the steps.
use Rattle.std.proofs.Common.{◌≡◌, ◌+◌, ◌≤◌, ◌++◌, map, drop, sum_by}
use Rattle.evaluation.specs.Over.{over_all, over_cases, weight_of_all, weight_of_cases}
use Rattle.evaluation.specs.SlotsRead.{up_to_decider}
use Rattle.operations.specs.CaseSteps.{find_from, switch_from}
use Rattle.operations.specs.ManyFolds.{many_from, many_start}
use Rattle.three_state.specs.Folds.{filter_on}
use Rattle.three_state.specs.Results.{filter_of, kept, members_of, switch_of}
use Rattle.node_eval.specs.Evaluating.{TakesAt, condition_at, visits_at, work_at}
use Rattle.node_eval.specs.Memory.{SomeOf, TakesInAll, TakesInCases}
use Rattle.node_eval.specs.Dependencies.{node_env}
use Rattle.node_eval.specs.View.{case_view, cases_of, trees_of, view}
use Rattle.evaluation.specs.Visits.{visits_of_all, visits_of_cases}
use Rattle.node_eval.proofs.evaluating.+eval.Given as goal

abbrev pub invariant-eval_all-loop-operand : goal.invariant-eval_all-loop-operand
invariant-eval_all-loop-operand g l =
    let env = node_env (g.C.Cells.results l.cells) in
    let all = map view l.operands in
    record {
      value : many_from l.fold (over_all env l.at (trees_of (drop l.operand-index all))) ≡ many_from (many_start l.fn.op) (over_all env l.at (trees_of all));
      count : l.fold.count ≡ l.operand-index;
      visited : l.steps + visits_of_all env l.at (trees_of (drop l.operand-index all)) ≡ l.fn.steps + visits_of_all env l.at (trees_of all);
      most : l.steps + weight_of_all env l.at (trees_of (drop l.operand-index all)) ≤ l.fn.steps + weight_of_all env l.at (trees_of all);
      least : l.fn.steps ≤ l.steps;
      memory : TakesInAll env l.at (trees_of (drop l.operand-index all)) → TakesInAll env l.at (trees_of all);
    }

abbrev pub invariant-eval_cases-loop-case : goal.invariant-eval_cases-loop-case
invariant-eval_cases-loop-case g l =
    let env = node_env (g.C.Cells.results l.cells) in
    let all = map case_view l.cases in
    record {
      value : switch_from l.complete (over_cases env l.at (cases_of (drop l.case-index all))) ≡ switch_of (over_cases env l.at (cases_of all));
      visited : l.steps + visits_of_cases env l.at (cases_of (drop l.case-index all)) ≡ l.fn.steps + visits_of_cases env l.at (cases_of all);
      most : l.steps + weight_of_cases env l.at (cases_of (drop l.case-index all)) ≤ l.fn.steps + weight_of_cases env l.at (cases_of all);
      least : l.fn.steps ≤ l.steps;
      memory : TakesInCases env l.at (cases_of (drop l.case-index all)) → TakesInCases env l.at (cases_of all);
    }

abbrev pub invariant-eval_filter-loop-member : goal.invariant-eval_filter-loop-member
invariant-eval_filter-loop-member g l =
    let results = g.C.Cells.results l.cells in
    let condition = condition_at results l.at (view l.test) in
    record {
      value : filter_on condition l.kept.items l.fold (drop l.member-index l.member-items) ≡ filter_of l.source condition;
      kept : l.kept.items ++ kept condition (drop l.member-index l.member-items) ≡ kept condition (members_of l.source);
      visited : l.steps + sum_by (visits_at results l.at (view l.test)) (drop l.member-index l.member-items) ≡ l.fn.steps + sum_by (visits_at results l.at (view l.test)) (members_of l.source);
      most : l.steps + sum_by (work_at results l.at (view l.test)) (drop l.member-index l.member-items) ≤ l.fn.steps + sum_by (work_at results l.at (view l.test)) (members_of l.source);
      least : l.fn.steps ≤ l.steps;
    }

abbrev pub invariant-find_among-loop-member : goal.invariant-find_among-loop-member
invariant-find_among-loop-member g l =
    let results = g.C.Cells.results l.cells in
    let condition = condition_at results l.at (view l.test) in
    record {
      value : find_from condition l.complete (drop l.member-index l.members) ≡ find_from condition l.fn.complete l.members;
      visited : l.steps + sum_by (visits_at results l.at (view l.test)) (up_to_decider condition (drop l.member-index l.members)) ≡ l.fn.steps + sum_by (visits_at results l.at (view l.test)) (up_to_decider condition l.members);
      most : l.steps + sum_by (work_at results l.at (view l.test)) (drop l.member-index l.members) ≤ l.fn.steps + sum_by (work_at results l.at (view l.test)) l.members;
      least : l.fn.steps ≤ l.steps;
      memory : SomeOf (TakesAt results l.at (view l.test)) (up_to_decider condition (drop l.member-index l.members)) → SomeOf (TakesAt results l.at (view l.test)) (up_to_decider condition l.members);
    }
