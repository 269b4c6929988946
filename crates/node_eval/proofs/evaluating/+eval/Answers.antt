use Rattle.std.proofs.Common.{◌≡◌, ◌+◌, ◌++◌, [], List, ℕ, suc, length, sum_by, map, drop, refl, sym, ap, subst, ◌∙◌, arith, inl, inr}
use Rattle.std.proofs.lemmas.List.{append-nil, drop_all, length-map}
use Rattle.std.proofs.lemmas.Result.{on_ok_weaker}
use Rattle.dict_source.specs.Tree.{many, pick}
use Rattle.evaluation.specs.Over.{many_of, over, over_all, over_cases, weight}
use Rattle.evaluation.specs.SlotsRead.{up_to_decider}
use Rattle.operations.specs.CaseSteps.{after_case, find_after, find_from, switch_from}
use Rattle.operations.specs.ManyFolds.{many_from}
use Rattle.operations.specs.declared.cases.CaseStep.TheVariants.{Next, Take, End}
use Rattle.operations.proofs.CaseLaws.{find_after-start, switch_from-start}
use Rattle.operations.proofs.FilterLaws.{filter_on-source, kept-member_list}
use Rattle.operations.proofs.ManyLaws.{many_from-start}
use Rattle.operations.proofs.StepLaws.{none_fault, none_incomplete, ok_more, ok_same, one_more}
use Rattle.three_state.specs.Results.{kept, members_of}
use Rattle.three_state.specs.declared.strict.Verdict.{Verdict}
use Rattle.node_eval.specs.Evaluating.{TakesAt, condition_at, visits_at, work_at}
use Rattle.node_eval.specs.Dependencies.{node_env}
use Rattle.node_eval.specs.Globals.{SomeHoldsMemory, global_result}
use Rattle.node_eval.specs.Memory.{TakesMemory}
use Rattle.node_eval.specs.View.{case_view, cases_of, globals_view, trees_of, view}
use Rattle.evaluation.specs.Visits.{visits, visits_of_all, visits_of_cases}
use Rattle.node_eval.specs.declared.node_position.NodePosition.{NodePosition}
use Rattle.node_eval.proofs.GlobalLaws.{globals_give, globals_take, globals_visit, globals_weigh}
use Rattle.node_eval.proofs.RestLaws.{all_next, all_take, all_visit, all_weigh, case_at, case_takes, case_visit, cases_weigh, filter_next, find_at, find_takes, find_visit, kept_more, member_takes, members_weigh, test_takes}
use Rattle.node_eval.proofs.Views.{view-Globals, view-Pick}
use Rattle.node_eval.proofs.evaluating.+eval.Goals as goal

-- ---- a node

pub visit-returns-in-Pick-clause-value : goal.visit-returns-in-Pick-clause-value
visit-returns-in-Pick-clause-value g t c =
    let shape : view c.args.node.now ≡ pick c.in-Pick.op c.in-Pick.path (view c.in-Pick.test.value) = ap view c.in-Pick.is ∙ view-Pick _ _ _ in
    rw (shape, ← c.deref-in-Pick.ensures) c.eval_pick.ensures.value

pub visit-returns-in-Pick-clause-visited : goal.visit-returns-in-Pick-clause-visited
visit-returns-in-Pick-clause-visited g t c =
    let shape : view c.args.node.now ≡ pick c.in-Pick.op c.in-Pick.path (view c.in-Pick.test.value) = ap view c.in-Pick.is ∙ view-Pick _ _ _ in
    rw (shape, ← c.deref-in-Pick.ensures) (ok_more _ _ _ _ _ c.tick.ensures c.eval_pick.ensures.visited)

pub visit-returns-in-Pick-clause-most : goal.visit-returns-in-Pick-clause-most
visit-returns-in-Pick-clause-most g t c =
    let shape : view c.args.node.now ≡ pick c.in-Pick.op c.in-Pick.path (view c.in-Pick.test.value) = ap view c.in-Pick.is ∙ view-Pick _ _ _ in
    rw (shape, ← c.deref-in-Pick.ensures) (one_more _ _ _ _ c.tick.ensures c.eval_pick.ensures.most)

pub visit-returns-in-Pick-clause-memory : goal.visit-returns-in-Pick-clause-memory
visit-returns-in-Pick-clause-memory g t c =
    let shape : view c.args.node.now ≡ pick c.in-Pick.op c.in-Pick.path (view c.in-Pick.test.value) = ap view c.in-Pick.is ∙ view-Pick _ _ _ in
    rw (shape, ← c.deref-in-Pick.ensures) c.eval_pick.ensures.memory

-- ---- operands that are all facts which stand once

pub visit-returns-in-Globals-clause-value : goal.visit-returns-in-Globals-clause-value
visit-returns-in-Globals-clause-value g t c =
    let results = g.C.Cells.results c.args.cells.now in
    let shape : view c.args.node.now ≡ many c.in-Globals.op (globals_view c.in-Globals.facts.items) = ap view c.in-Globals.is ∙ view-Globals _ _ in
    ok_same c.eval_flat.result _ _
    (ap (many_of c.in-Globals.op) (ap (map (global_result results)) c.as_slice-in-Globals.ensures.value ∙ sym (globals_give results c.args.at c.in-Globals.facts.items))
    ∙ sym (ap (over (node_env results) c.args.at) shape))
    c.eval_flat.ensures.value

pub visit-returns-in-Globals-clause-visited : goal.visit-returns-in-Globals-clause-visited
visit-returns-in-Globals-clause-visited g t c =
    let results = g.C.Cells.results c.args.cells.now in
    let shape : view c.args.node.now ≡ many c.in-Globals.op (globals_view c.in-Globals.facts.items) = ap view c.in-Globals.is ∙ view-Globals _ _ in
    let visit : visits (node_env results) c.args.at (view c.args.node.now) ≡ suc (length c.in-Globals.facts.items) =
    ap (visits (node_env results) c.args.at) shape ∙ ap suc (globals_visit results c.args.at c.in-Globals.facts.items) in
    on_ok_weaker c.eval_flat.result
    (λ (k : c.eval_flat.new.steps ≡ c.tick.new.self + length c.as_slice-in-Globals.result.now). omega (arith, k, c.tick.ensures, visit, ap length c.as_slice-in-Globals.ensures.value))
    c.eval_flat.ensures.steps

pub visit-returns-in-Globals-clause-most : goal.visit-returns-in-Globals-clause-most
visit-returns-in-Globals-clause-most g t c =
    let results = g.C.Cells.results c.args.cells.now in
    let shape : view c.args.node.now ≡ many c.in-Globals.op (globals_view c.in-Globals.facts.items) = ap view c.in-Globals.is ∙ view-Globals _ _ in
    let weigh : weight (node_env results) c.args.at (view c.args.node.now) ≡ suc (length c.in-Globals.facts.items) =
    ap (weight (node_env results) c.args.at) shape ∙ ap suc (globals_weigh results c.args.at c.in-Globals.facts.items) in
    omega (arith, weigh, c.tick.ensures, c.eval_flat.ensures.most, ap length c.as_slice-in-Globals.ensures.value)

pub visit-returns-in-Globals-clause-memory : goal.visit-returns-in-Globals-clause-memory
visit-returns-in-Globals-clause-memory g t c =
    let results = g.C.Cells.results c.args.cells.now in
    let shape : view c.args.node.now ≡ many c.in-Globals.op (globals_view c.in-Globals.facts.items) = ap view c.in-Globals.is ∙ view-Globals _ _ in
    λ h. subst (TakesMemory (node_env results) c.args.at) (sym shape)
    (globals_take results c.args.at c.in-Globals.facts.items (subst (SomeHoldsMemory results) c.as_slice-in-Globals.ensures.value (c.eval_flat.ensures.memory h)))

-- ---- a list of operands

pub eval_all-returns-in_err-see_operand-clause-most : goal.eval_all-returns-in_err-see_operand-clause-most
eval_all-returns-in_err-see_operand-clause-most g t c =
    let weigh = all_weigh view (node_env (g.C.Cells.results c.args.cells.now)) c.args.at c.args.operands.now c.loop-operand.operand-index c.operand-item.result c.loop-operand-test.true c.operand-item.is in
    omega (arith, weigh, c.in_err-see_operand.ensures.most, c.loop-operand.invariant.most)

pub eval_all-returns-in_err-see_operand-clause-memory : goal.eval_all-returns-in_err-see_operand-clause-memory
eval_all-returns-in_err-see_operand-clause-memory g t c =
    λ h. c.loop-operand.invariant.memory (all_take view (node_env (g.C.Cells.results c.args.cells.now)) c.args.at c.args.operands.now c.loop-operand.operand-index c.operand-item.result c.loop-operand-test.true c.operand-item.is (inl (c.in_err-see_operand.ensures.memory refl)))

pub eval_all-loop-operand-preserved : goal.eval_all-loop-operand-preserved
eval_all-loop-operand-preserved g t c =
    let env = node_env (g.C.Cells.results c.args.cells.now) in
    let i = c.loop-operand.operand-index in
    let weigh = all_weigh view env c.args.at c.args.operands.now i c.operand-item.result c.loop-operand-test.true c.operand-item.is in
    let visit = all_visit view env c.args.at c.args.operands.now i c.operand-item.result c.loop-operand-test.true c.operand-item.is in
    record {
      value =
          all_next view env c.args.at c.args.operands.now i c.operand-item.result c.loop-operand-test.true c.operand-item.is c.loop-operand.fold c.see_operand.new.fold (over env c.args.at (view c.operand-item.result)) refl c.in_ok-see_operand.ensures.next
          ∙ c.loop-operand.invariant.value;
      count = ap (λ s. s.count) c.in_ok-see_operand.ensures.next ∙ ap (λ n. n + 1) c.loop-operand.invariant.count;
      visited = omega (arith, visit, c.in_ok-see_operand.ensures.visited, c.loop-operand.invariant.visited);
      most = omega (arith, weigh, c.in_ok-see_operand.ensures.most, c.loop-operand.invariant.most);
      least = omega (arith, c.in_ok-see_operand.ensures.least, c.loop-operand.invariant.least);
      memory = λ h. c.loop-operand.invariant.memory (all_take view env c.args.at c.args.operands.now i c.operand-item.result c.loop-operand-test.true c.operand-item.is (inr h));
    }

pub eval_all-returns-clause-value : goal.eval_all-returns-clause-value
eval_all-returns-clause-value g t c =
    let views = map view c.args.operands.now in
    let none : drop c.loop-operand.operand-index views ≡ [] = drop_all c.loop-operand.operand-index views (omega (arith, length-map c.args.operands.now view, c.loop-operand-test.false)) in
    c.end.ensures.value
    ∙ sym (ap (λ l. many_from c.loop-operand.fold (over_all (node_env (g.C.Cells.results c.args.cells.now)) c.args.at (trees_of l))) none)
    ∙ c.loop-operand.invariant.value
    ∙ many_from-start c.args.op (over_all (node_env (g.C.Cells.results c.args.cells.now)) c.args.at (trees_of views))

pub eval_all-returns-clause-visited : goal.eval_all-returns-clause-visited
eval_all-returns-clause-visited g t c =
    let views = map view c.args.operands.now in
    let none : drop c.loop-operand.operand-index views ≡ [] = drop_all c.loop-operand.operand-index views (omega (arith, length-map c.args.operands.now view, c.loop-operand-test.false)) in
    let visit = ap (λ l. visits_of_all (node_env (g.C.Cells.results c.args.cells.now)) c.args.at (trees_of l)) none in
    omega (arith, visit, c.loop-operand.invariant.visited)

-- ---- a Switch

pub eval_cases-loop-case-init : goal.eval_cases-loop-case-init
eval_cases-loop-case-init g t c = record {
  value = switch_from-start (over_cases (node_env (g.C.Cells.results c.args.cells.now)) c.args.at (cases_of (map case_view c.args.cases.now)));
  visited = omega arith;
  most = omega arith;
  least = omega arith;
  memory = λ h. h;
}

pub eval_cases-returns-in_err-condition-clause-most : goal.eval_cases-returns-in_err-condition-clause-most
eval_cases-returns-in_err-condition-clause-most g t c =
    let weigh = cases_weigh case_view (node_env (g.C.Cells.results c.args.cells.now)) c.args.at c.args.cases.now c.loop-case.case-index c.case-item.result c.loop-case-test.true c.case-item.is in
    omega (arith, weigh, c.in_err-condition.ensures.most, c.loop-case.invariant.most)

pub eval_cases-returns-in_err-condition-clause-memory : goal.eval_cases-returns-in_err-condition-clause-memory
eval_cases-returns-in_err-condition-clause-memory g t c =
    λ h. c.loop-case.invariant.memory (test_takes case_view (node_env (g.C.Cells.results c.args.cells.now)) c.args.at c.args.cases.now c.loop-case.case-index c.case-item.result c.loop-case-test.true c.case-item.is (c.in_err-condition.ensures.memory refl))

pub eval_cases-returns-in_err-res-in-Take-clause-memory : goal.eval_cases-returns-in_err-res-in-Take-clause-memory
eval_cases-returns-in_err-res-in-Take-clause-memory g t c =
    λ h. c.loop-case.invariant.memory (case_takes case_view (node_env (g.C.Cells.results c.args.cells.now)) c.args.at c.args.cases.now c.loop-case.case-index c.case-item.result c.loop-case-test.true c.case-item.is c.loop-case.complete c.in_ok-condition.condition (Take c.in-Take.still) c.in_ok-condition.ensures.value (sym c.in-Take.is ∙ c.case_step-step.ensures) (c.in_err-res-in-Take.ensures.memory refl))

pub eval_cases-returns-in_err-res-in-Take-clause-most : goal.eval_cases-returns-in_err-res-in-Take-clause-most
eval_cases-returns-in_err-res-in-Take-clause-most g t c =
    let weigh = cases_weigh case_view (node_env (g.C.Cells.results c.args.cells.now)) c.args.at c.args.cases.now c.loop-case.case-index c.case-item.result c.loop-case-test.true c.case-item.is in
    omega (arith, weigh, c.in_ok-condition.ensures.most, c.in_err-res-in-Take.ensures.most, c.loop-case.invariant.most)

pub eval_cases-returns-in-Take-clause-value : goal.eval_cases-returns-in-Take-clause-value
eval_cases-returns-in-Take-clause-value g t c =
    let env = node_env (g.C.Cells.results c.args.cells.now) in
    let i = c.loop-case.case-index in
    c.taken.ensures
    ∙ ap (λ r. after_case (Take c.in-Take.still) r (λ still. switch_from still (over_cases env c.args.at (cases_of (drop (i + 1) (map case_view c.args.cases.now)))))) c.in_ok-res-in-Take.ensures.value
    ∙ case_at case_view env c.args.at c.args.cases.now i c.case-item.result c.loop-case-test.true c.case-item.is c.loop-case.complete c.in_ok-condition.condition (Take c.in-Take.still) c.in_ok-condition.ensures.value (sym c.in-Take.is ∙ c.case_step-step.ensures)
    ∙ c.loop-case.invariant.value

pub eval_cases-returns-in-Take-clause-most : goal.eval_cases-returns-in-Take-clause-most
eval_cases-returns-in-Take-clause-most g t c =
    let weigh = cases_weigh case_view (node_env (g.C.Cells.results c.args.cells.now)) c.args.at c.args.cases.now c.loop-case.case-index c.case-item.result c.loop-case-test.true c.case-item.is in
    omega (arith, weigh, c.in_ok-condition.ensures.most, c.in_ok-res-in-Take.ensures.most, c.loop-case.invariant.most)

pub eval_cases-returns-in-Take-clause-visited : goal.eval_cases-returns-in-Take-clause-visited
eval_cases-returns-in-Take-clause-visited g t c =
    let env = node_env (g.C.Cells.results c.args.cells.now) in
    let visit = case_visit case_view env c.args.at c.args.cases.now c.loop-case.case-index c.case-item.result c.loop-case-test.true c.case-item.is c.loop-case.complete c.in_ok-condition.condition (Take c.in-Take.still) c.in_ok-condition.ensures.value (sym c.in-Take.is ∙ c.case_step-step.ensures) in
    omega (arith, visit, c.in_ok-condition.ensures.visited, c.in_ok-res-in-Take.ensures.visited, c.loop-case.invariant.visited)

pub eval_cases-returns-in-End-clause-value : goal.eval_cases-returns-in-End-clause-value
eval_cases-returns-in-End-clause-value g t c =
    case_at case_view (node_env (g.C.Cells.results c.args.cells.now)) c.args.at c.args.cases.now c.loop-case.case-index c.case-item.result c.loop-case-test.true c.case-item.is c.loop-case.complete c.in_ok-condition.condition (End c.in-End.res) c.in_ok-condition.ensures.value (sym c.in-End.is ∙ c.case_step-step.ensures)
    ∙ c.loop-case.invariant.value

pub eval_cases-returns-in-End-clause-most : goal.eval_cases-returns-in-End-clause-most
eval_cases-returns-in-End-clause-most g t c =
    let weigh = cases_weigh case_view (node_env (g.C.Cells.results c.args.cells.now)) c.args.at c.args.cases.now c.loop-case.case-index c.case-item.result c.loop-case-test.true c.case-item.is in
    omega (arith, weigh, c.in_ok-condition.ensures.most, c.loop-case.invariant.most)

pub eval_cases-returns-in-End-clause-visited : goal.eval_cases-returns-in-End-clause-visited
eval_cases-returns-in-End-clause-visited g t c =
    let env = node_env (g.C.Cells.results c.args.cells.now) in
    let visit = case_visit case_view env c.args.at c.args.cases.now c.loop-case.case-index c.case-item.result c.loop-case-test.true c.case-item.is c.loop-case.complete c.in_ok-condition.condition (End c.in-End.res) c.in_ok-condition.ensures.value (sym c.in-End.is ∙ c.case_step-step.ensures) in
    omega (arith, visit, c.in_ok-condition.ensures.visited, c.loop-case.invariant.visited)

pub eval_cases-loop-case-preserved : goal.eval_cases-loop-case-preserved
eval_cases-loop-case-preserved g t c =
    let env = node_env (g.C.Cells.results c.args.cells.now) in
    let i = c.loop-case.case-index in
    let weigh = cases_weigh case_view env c.args.at c.args.cases.now i c.case-item.result c.loop-case-test.true c.case-item.is in
    let visit = case_visit case_view env c.args.at c.args.cases.now i c.case-item.result c.loop-case-test.true c.case-item.is c.loop-case.complete c.in_ok-condition.condition (Next c.in-Next.still) c.in_ok-condition.ensures.value (sym c.in-Next.is ∙ c.case_step-step.ensures) in
    record {
      value =
          case_at case_view env c.args.at c.args.cases.now i c.case-item.result c.loop-case-test.true c.case-item.is c.loop-case.complete c.in_ok-condition.condition (Next c.in-Next.still) c.in_ok-condition.ensures.value (sym c.in-Next.is ∙ c.case_step-step.ensures)
          ∙ c.loop-case.invariant.value;
      visited = omega (arith, visit, c.in_ok-condition.ensures.visited, c.loop-case.invariant.visited);
      most = omega (arith, weigh, c.in_ok-condition.ensures.most, c.loop-case.invariant.most);
      least = omega (arith, c.in_ok-condition.ensures.least, c.loop-case.invariant.least);
      memory = λ h. c.loop-case.invariant.memory (case_takes case_view env c.args.at c.args.cases.now i c.case-item.result c.loop-case-test.true c.case-item.is c.loop-case.complete c.in_ok-condition.condition (Next c.in-Next.still) c.in_ok-condition.ensures.value (sym c.in-Next.is ∙ c.case_step-step.ensures) h);
    }

pub eval_cases-returns-clause-value : goal.eval_cases-returns-clause-value
eval_cases-returns-clause-value g t c =
    let views = map case_view c.args.cases.now in
    let none : drop c.loop-case.case-index views ≡ [] = drop_all c.loop-case.case-index views (omega (arith, length-map c.args.cases.now case_view, c.loop-case-test.false)) in
    sym (ap (λ l. switch_from c.loop-case.complete (over_cases (node_env (g.C.Cells.results c.args.cells.now)) c.args.at (cases_of l))) none) ∙ c.loop-case.invariant.value

pub eval_cases-returns-clause-visited : goal.eval_cases-returns-clause-visited
eval_cases-returns-clause-visited g t c =
    let views = map case_view c.args.cases.now in
    let none : drop c.loop-case.case-index views ≡ [] = drop_all c.loop-case.case-index views (omega (arith, length-map c.args.cases.now case_view, c.loop-case-test.false)) in
    let visit = ap (λ l. visits_of_cases (node_env (g.C.Cells.results c.args.cells.now)) c.args.at (cases_of l)) none in
    omega (arith, visit, c.loop-case.invariant.visited)

-- ---- a Filter and a Find

pub eval_pick-returns-in-Filter-clause-value : goal.eval_pick-returns-in-Filter-clause-value
eval_pick-returns-in-Filter-clause-value g t c = rw c.in-Filter.is (rw c.read_source-source.ensures at c.eval_filter.ensures.value)

pub eval_pick-returns-in-Filter-clause-visited : goal.eval_pick-returns-in-Filter-clause-visited
eval_pick-returns-in-Filter-clause-visited g t c = rw c.in-Filter.is (rw c.read_source-source.ensures at c.eval_filter.ensures.visited)

pub eval_pick-returns-in-Filter-clause-memory : goal.eval_pick-returns-in-Filter-clause-memory
eval_pick-returns-in-Filter-clause-memory g t c = rw c.in-Filter.is (λ h. tt)

pub eval_filter-loop-member-init : goal.eval_filter-loop-member-init
eval_filter-loop-member-init g t c =
    let results = g.C.Cells.results c.args.cells.now in
    let test = view c.args.test.now in
    let condition = condition_at results c.args.at test in
    let law = filter_on-source c.args.source.now condition in
    let same = c.members-member-items.ensures.value in
    record {
      value = rw (c.new-kept.ensures.items, c.new-fold.ensures, same) law;
      kept = ap (λ (l : List ℕ). l ++ kept condition c.members-member-items.result.now) c.new-kept.ensures.items ∙ ap (kept condition) same;
      visited = omega (arith, ap (sum_by (visits_at results c.args.at test)) same);
      most = omega (arith, ap (sum_by (work_at results c.args.at test)) same);
      least = omega arith;
    }

pub eval_filter-loop-member-preserved : goal.eval_filter-loop-member-preserved
eval_filter-loop-member-preserved g t c =
    let i = c.loop-member.member-index in
    let ms = c.members-member-items.result.now in
    let results = g.C.Cells.results c.args.cells.now in
    let env = node_env results in
    let test = view c.args.test.now in
    let condition = condition_at results c.args.at test in
    let is = c.in_ok-condition.ensures.value ∙ ap (λ (p : NodePosition). over env p test) c.at.ensures in
    let weigh = members_weigh ms i c.loop-member-test.true (work_at results c.args.at test) in
    let visit = members_weigh ms i c.loop-member-test.true (visits_at results c.args.at test) in
    record {
      value =
          filter_next ms i c.loop-member-test.true condition c.in_ok-condition.condition is c.loop-member.kept.items c.keep.new.kept.items c.see-is_kept.result c.see-is_kept.ensures.kept c.in_ok-keep.ensures c.loop-member.fold c.see-is_kept.new.self c.see-is_kept.ensures.next
          ∙ c.loop-member.invariant.value;
      kept =
          kept_more ms i c.loop-member-test.true condition c.in_ok-condition.condition is c.loop-member.kept.items c.keep.new.kept.items c.see-is_kept.result c.see-is_kept.ensures.kept c.in_ok-keep.ensures
          ∙ c.loop-member.invariant.kept;
      visited = omega (arith, visit, ap (λ (p : NodePosition). visits env p test) c.at.ensures, c.in_ok-condition.ensures.visited, c.loop-member.invariant.visited);
      most = omega (arith, weigh, ap (λ (p : NodePosition). weight env p test) c.at.ensures, c.in_ok-condition.ensures.most, c.loop-member.invariant.most);
      least = omega (arith, c.in_ok-condition.ensures.least, c.loop-member.invariant.least);
    }

pub eval_filter-end-requires : goal.eval_filter-end-requires
eval_filter-end-requires g t c =
    let ms = c.members-member-items.result.now in
    let found = c.loop-member.kept.items in
    let condition = condition_at (g.C.Cells.results c.args.cells.now) c.args.at (view c.args.test.now) in
    let none : drop c.loop-member.member-index ms ≡ [] = drop_all c.loop-member.member-index ms c.loop-member-test.false in
    let all : found ≡ kept condition (members_of c.args.source.now) = sym (append-nil found) ∙ sym (ap (λ l. found ++ kept condition l) none) ∙ c.loop-member.invariant.kept in
    rw all (kept-member_list condition (members_of c.args.source.now) (rw c.members-member-items.ensures.value at c.members-member-items.ensures.members))

pub eval_filter-returns-clause-visited : goal.eval_filter-returns-clause-visited
eval_filter-returns-clause-visited g t c =
    let ms = c.members-member-items.result.now in
    let none : drop c.loop-member.member-index ms ≡ [] = drop_all c.loop-member.member-index ms c.loop-member-test.false in
    let visit = ap (sum_by (visits_at (g.C.Cells.results c.args.cells.now) c.args.at (view c.args.test.now))) none in
    omega (arith, visit, c.loop-member.invariant.visited)

pub eval_find-returns-in-Go-clause-visited : goal.eval_find-returns-in-Go-clause-visited
eval_find-returns-in-Go-clause-visited g t c = rw c.members.ensures.value at c.find_among.ensures.visited

pub eval_find-returns-in-Go-clause-memory : goal.eval_find-returns-in-Go-clause-memory
eval_find-returns-in-Go-clause-memory g t c = rw c.members.ensures.value at c.find_among.ensures.memory

pub eval_find-returns-in-Incomplete-clause-visited : goal.eval_find-returns-in-Incomplete-clause-visited
eval_find-returns-in-Incomplete-clause-visited g t c =
    let results = g.C.Cells.results c.args.cells.now in
    let condition = condition_at results c.args.at (view c.args.test.now) in
    let visit = ap (λ l. sum_by (visits_at results c.args.at (view c.args.test.now)) (up_to_decider condition l)) (none_incomplete c.args.source.now (sym c.source_verdict.ensures ∙ c.in-Incomplete.is)) in
    omega (arith, visit)

pub eval_find-returns-in-Fault-clause-visited : goal.eval_find-returns-in-Fault-clause-visited
eval_find-returns-in-Fault-clause-visited g t c =
    let results = g.C.Cells.results c.args.cells.now in
    let condition = condition_at results c.args.at (view c.args.test.now) in
    let visit = ap (λ l. sum_by (visits_at results c.args.at (view c.args.test.now)) (up_to_decider condition l)) (none_fault c.args.source.now c.in-Fault.fault (sym c.source_verdict.ensures ∙ c.in-Fault.is)) in
    omega (arith, visit)

pub eval_find-returns-in-Go-clause-value : goal.eval_find-returns-in-Go-clause-value
eval_find-returns-in-Go-clause-value g t c =
    let condition = condition_at (g.C.Cells.results c.args.cells.now) c.args.at (view c.args.test.now) in
    ok_same c.find_among.result _ _
    (ap (find_from condition c.in-Go.complete) c.members.ensures.value
    ∙ ap (λ (v : Verdict). find_after v condition (members_of c.args.source.now)) (sym c.in-Go.is ∙ c.source_verdict.ensures)
    ∙ find_after-start c.args.source.now condition)
    c.find_among.ensures.value

pub find_among-loop-member-preserved : goal.find_among-loop-member-preserved
find_among-loop-member-preserved g t c =
    let i = c.loop-member.member-index in
    let results = g.C.Cells.results c.args.cells.now in
    let env = node_env results in
    let test = view c.args.test.now in
    let condition = condition_at results c.args.at test in
    let is = c.in_ok-condition.ensures.value ∙ ap (λ (p : NodePosition). over env p test) c.at.ensures in
    let step = sym c.in-Next.is ∙ c.case_step-step.ensures in
    let weigh = members_weigh c.args.members.now i c.loop-member-test.true (work_at results c.args.at test) in
    let visit = find_visit c.args.members.now i c.loop-member-test.true condition c.in_ok-condition.condition is c.loop-member.complete (Next c.in-Next.still) step (visits_at results c.args.at test) in
    record {
      value = find_at c.args.members.now i c.loop-member-test.true condition c.in_ok-condition.condition is c.loop-member.complete (Next c.in-Next.still) step ∙ c.loop-member.invariant.value;
      visited = omega (arith, visit, ap (λ (p : NodePosition). visits env p test) c.at.ensures, c.in_ok-condition.ensures.visited, c.loop-member.invariant.visited);
      most = omega (arith, weigh, ap (λ (p : NodePosition). weight env p test) c.at.ensures, c.in_ok-condition.ensures.most, c.loop-member.invariant.most);
      least = omega (arith, c.in_ok-condition.ensures.least, c.loop-member.invariant.least);
      memory = λ h. c.loop-member.invariant.memory (find_takes c.args.members.now i c.loop-member-test.true condition c.in_ok-condition.condition is c.loop-member.complete (Next c.in-Next.still) step (TakesAt results c.args.at test) h);
    }

pub find_among-returns-in_err-condition-clause-memory : goal.find_among-returns-in_err-condition-clause-memory
find_among-returns-in_err-condition-clause-memory g t c =
    let results = g.C.Cells.results c.args.cells.now in
    let test = view c.args.test.now in
    λ h. c.loop-member.invariant.memory (member_takes c.args.members.now c.loop-member.member-index c.loop-member-test.true (condition_at results c.args.at test) (TakesAt results c.args.at test) (rw c.at.ensures at (c.in_err-condition.ensures.memory refl)))

pub find_among-returns-in-Take-clause-visited : goal.find_among-returns-in-Take-clause-visited
find_among-returns-in-Take-clause-visited g t c =
    let results = g.C.Cells.results c.args.cells.now in
    let env = node_env results in
    let test = view c.args.test.now in
    let is = c.in_ok-condition.ensures.value ∙ ap (λ (p : NodePosition). over env p test) c.at.ensures in
    let visit = find_visit c.args.members.now c.loop-member.member-index c.loop-member-test.true (condition_at results c.args.at test) c.in_ok-condition.condition is c.loop-member.complete (Take c.in-Take.still) (sym c.in-Take.is ∙ c.case_step-step.ensures) (visits_at results c.args.at test) in
    omega (arith, visit, ap (λ (p : NodePosition). visits env p test) c.at.ensures, c.in_ok-condition.ensures.visited, c.loop-member.invariant.visited)

pub find_among-returns-in-End-clause-visited : goal.find_among-returns-in-End-clause-visited
find_among-returns-in-End-clause-visited g t c =
    let results = g.C.Cells.results c.args.cells.now in
    let env = node_env results in
    let test = view c.args.test.now in
    let is = c.in_ok-condition.ensures.value ∙ ap (λ (p : NodePosition). over env p test) c.at.ensures in
    let visit = find_visit c.args.members.now c.loop-member.member-index c.loop-member-test.true (condition_at results c.args.at test) c.in_ok-condition.condition is c.loop-member.complete (End c.in-End.none) (sym c.in-End.is ∙ c.case_step-step.ensures) (visits_at results c.args.at test) in
    omega (arith, visit, ap (λ (p : NodePosition). visits env p test) c.at.ensures, c.in_ok-condition.ensures.visited, c.loop-member.invariant.visited)

pub find_among-returns-clause-visited : goal.find_among-returns-clause-visited
find_among-returns-clause-visited g t c =
    let results = g.C.Cells.results c.args.cells.now in
    let test = view c.args.test.now in
    let condition = condition_at results c.args.at test in
    let none : drop c.loop-member.member-index c.args.members.now ≡ [] = drop_all c.loop-member.member-index c.args.members.now c.loop-member-test.false in
    let visit = ap (λ l. sum_by (visits_at results c.args.at test) (up_to_decider condition l)) none in
    omega (arith, visit, c.loop-member.invariant.visited)
