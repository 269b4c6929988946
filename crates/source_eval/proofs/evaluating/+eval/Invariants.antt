-- What is left to evaluate gives the rest of the result, of what is read, and of the steps.
use Rattle.std.proofs.Common.{◌≡◌, ◌+◌, ◌≤◌, ◌++◌, IsTrue, flat_map, map, drop, sum_by}
use Rattle.dict_source.specs.View.{case_view, cases_of, trees_of, view}
use Rattle.evaluation.specs.Over.{over_all, over_cases, weight_of_all, weight_of_cases}
use Rattle.evaluation.specs.SlotsRead.{slots_read_of_all, slots_read_of_cases, up_to_decider}
use Rattle.evaluation.specs.Visits.{visits_of_all, visits_of_cases}
use Rattle.operations.specs.CaseSteps.{find_from, switch_from}
use Rattle.operations.specs.ManyFolds.{many_from, many_start}
use Rattle.three_state.specs.Folds.{filter_on}
use Rattle.three_state.specs.Results.{filter_of, kept, members_of, switch_of}
use Rattle.source_eval.specs.Context.{condition_on, condition_reads, env_of, reads_of, visits_on, work_on}
use Rattle.source_eval.proofs.evaluating.+eval.Given as goal

abbrev pub invariant-eval_all-loop-operand : goal.invariant-eval_all-loop-operand
invariant-eval_all-loop-operand g l = record {
  value : many_from l.fold (over_all (env_of (g.G.EvalContext.meaning l.context)) l.at (trees_of (drop l.operand-index (map view l.operands)))) ≡ many_from (many_start l.fn.op) (over_all (env_of (g.G.EvalContext.meaning l.context)) l.at (trees_of (map view l.operands)));
  count : l.fold.count ≡ l.operand-index;
  reads : IsTrue g.N.Notes.keeps → g.N.Notes.noted l.notes ++ slots_read_of_all (env_of (g.G.EvalContext.meaning l.context)) (reads_of (g.G.EvalContext.meaning l.context)) l.at (trees_of (drop l.operand-index (map view l.operands))) ≡ g.N.Notes.noted l.fn.notes ++ slots_read_of_all (env_of (g.G.EvalContext.meaning l.context)) (reads_of (g.G.EvalContext.meaning l.context)) l.at (trees_of (map view l.operands));
  visits : l.steps + visits_of_all (env_of (g.G.EvalContext.meaning l.context)) l.at (trees_of (drop l.operand-index (map view l.operands))) ≡ l.fn.steps + visits_of_all (env_of (g.G.EvalContext.meaning l.context)) l.at (trees_of (map view l.operands));
  most : l.steps + weight_of_all (env_of (g.G.EvalContext.meaning l.context)) l.at (trees_of (drop l.operand-index (map view l.operands))) ≤ l.fn.steps + weight_of_all (env_of (g.G.EvalContext.meaning l.context)) l.at (trees_of (map view l.operands));
}

abbrev pub invariant-eval_cases-loop-case : goal.invariant-eval_cases-loop-case
invariant-eval_cases-loop-case g l = record {
  value : switch_from l.complete (over_cases (env_of (g.G.EvalContext.meaning l.context)) l.at (cases_of (drop l.case-index (map case_view l.cases)))) ≡ switch_of (over_cases (env_of (g.G.EvalContext.meaning l.context)) l.at (cases_of (map case_view l.cases)));
  reads : IsTrue g.N.Notes.keeps → g.N.Notes.noted l.notes ++ slots_read_of_cases (env_of (g.G.EvalContext.meaning l.context)) (reads_of (g.G.EvalContext.meaning l.context)) l.at (cases_of (drop l.case-index (map case_view l.cases))) ≡ g.N.Notes.noted l.fn.notes ++ slots_read_of_cases (env_of (g.G.EvalContext.meaning l.context)) (reads_of (g.G.EvalContext.meaning l.context)) l.at (cases_of (map case_view l.cases));
  visits : l.steps + visits_of_cases (env_of (g.G.EvalContext.meaning l.context)) l.at (cases_of (drop l.case-index (map case_view l.cases))) ≡ l.fn.steps + visits_of_cases (env_of (g.G.EvalContext.meaning l.context)) l.at (cases_of (map case_view l.cases));
  most : l.steps + weight_of_cases (env_of (g.G.EvalContext.meaning l.context)) l.at (cases_of (drop l.case-index (map case_view l.cases))) ≤ l.fn.steps + weight_of_cases (env_of (g.G.EvalContext.meaning l.context)) l.at (cases_of (map case_view l.cases));
}

abbrev pub invariant-eval_filter-loop-member : goal.invariant-eval_filter-loop-member
invariant-eval_filter-loop-member g l = record {
  value : filter_on (condition_on (g.G.EvalContext.meaning l.context) l.under (view l.test)) l.kept.items l.fold (drop l.member-index l.member-items) ≡ filter_of l.source (condition_on (g.G.EvalContext.meaning l.context) l.under (view l.test));
  kept : l.kept.items ++ kept (condition_on (g.G.EvalContext.meaning l.context) l.under (view l.test)) (drop l.member-index l.member-items) ≡ kept (condition_on (g.G.EvalContext.meaning l.context) l.under (view l.test)) (members_of l.source);
  reads : IsTrue g.N.Notes.keeps → g.N.Notes.noted l.notes ++ flat_map (condition_reads (g.G.EvalContext.meaning l.context) l.under (view l.test)) (drop l.member-index l.member-items) ≡ g.N.Notes.noted l.fn.notes ++ flat_map (condition_reads (g.G.EvalContext.meaning l.context) l.under (view l.test)) (members_of l.source);
  visits : l.steps + sum_by (visits_on (g.G.EvalContext.meaning l.context) l.under (view l.test)) (drop l.member-index l.member-items) ≡ l.fn.steps + sum_by (visits_on (g.G.EvalContext.meaning l.context) l.under (view l.test)) (members_of l.source);
  most : l.steps + sum_by (work_on (g.G.EvalContext.meaning l.context) l.under (view l.test)) (drop l.member-index l.member-items) ≤ l.fn.steps + sum_by (work_on (g.G.EvalContext.meaning l.context) l.under (view l.test)) (members_of l.source);
}

abbrev pub invariant-find_among-loop-member : goal.invariant-find_among-loop-member
invariant-find_among-loop-member g l = record {
  value : find_from (condition_on (g.G.EvalContext.meaning l.context) l.under (view l.test)) l.complete (drop l.member-index l.members) ≡ find_from (condition_on (g.G.EvalContext.meaning l.context) l.under (view l.test)) l.fn.complete l.members;
  reads : IsTrue g.N.Notes.keeps → g.N.Notes.noted l.notes ++ flat_map (condition_reads (g.G.EvalContext.meaning l.context) l.under (view l.test)) (up_to_decider (condition_on (g.G.EvalContext.meaning l.context) l.under (view l.test)) (drop l.member-index l.members)) ≡ g.N.Notes.noted l.fn.notes ++ flat_map (condition_reads (g.G.EvalContext.meaning l.context) l.under (view l.test)) (up_to_decider (condition_on (g.G.EvalContext.meaning l.context) l.under (view l.test)) l.members);
  visits :
      l.steps + sum_by (visits_on (g.G.EvalContext.meaning l.context) l.under (view l.test)) (up_to_decider (condition_on (g.G.EvalContext.meaning l.context) l.under (view l.test)) (drop l.member-index l.members))
      ≡ l.fn.steps + sum_by (visits_on (g.G.EvalContext.meaning l.context) l.under (view l.test)) (up_to_decider (condition_on (g.G.EvalContext.meaning l.context) l.under (view l.test)) l.members);
  most : l.steps + sum_by (work_on (g.G.EvalContext.meaning l.context) l.under (view l.test)) (drop l.member-index l.members) ≤ l.fn.steps + sum_by (work_on (g.G.EvalContext.meaning l.context) l.under (view l.test)) l.members;
}
