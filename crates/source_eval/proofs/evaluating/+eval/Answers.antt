use Rattle.std.proofs.Common.{refl, ◌≡◌, ◌+◌, ◌++◌, [], List, ℕ, flat_map, sum_by, map, drop, get_or, sym, ap, ◌∙◌, arith}
use Rattle.std.proofs.lemmas.List.{append-nil, drop_all, length-map}
use Rattle.std.proofs.lemmas.Result.{on_ok_weaker}
use Rattle.dict_source.specs.Tree.{pick, two}
use Rattle.dict_source.specs.View.{case_view, cases_of, trees_of, use_view, view}
use Rattle.dict_source.proofs.Views.{view-Pick, view-Two}
use Rattle.evaluation.specs.Over.{over, over_all, over_cases, weight}
use Rattle.evaluation.specs.SlotsRead.{slots_read, slots_read_of_all, slots_read_of_cases}
use Rattle.evaluation.specs.Visits.{visits}
use Rattle.operations.specs.CaseSteps.{case_step, find_after, find_from}
use Rattle.operations.specs.ManyFolds.{many_from}
use Rattle.operations.specs.declared.cases.CaseStep.TheVariants.{Next, Take, End}
use Rattle.operations.proofs.CaseLaws.{find_after-start, switch_from-start}
use Rattle.operations.proofs.FilterLaws.{filter_on-source, kept-member_list}
use Rattle.operations.proofs.ManyLaws.{many_from-start}
use Rattle.operations.proofs.StepLaws.{ok_more, ok_same, one_more}
use Rattle.three_state.specs.Folds.{kept_next, verdict_next}
use Rattle.three_state.specs.Results.{kept, members_of}
use Rattle.three_state.specs.declared.strict.Verdict.{Verdict}
use Rattle.dict_meaning.specs.Dependencies.{EvalPosition}
use Rattle.source_eval.specs.Context.{condition_on, condition_reads, env_of, reads_of, visits_on, work_on}
use Rattle.source_eval.proofs.EvalLaws.{all_next, all_visits, all_weigh, case_at, cases_visits, cases_weigh, filter_next, find_at, found_visits, kept_more, members_weigh}
use Rattle.source_eval.proofs.ReadLaws.{case_read, joined, judged_read, member_read, operand_read}
use Rattle.source_eval.proofs.evaluating.+eval.Goals as goal

-- ---- eval

pub eval-returns-in-Pick-clause-value : goal.eval-returns-in-Pick-clause-value
eval-returns-in-Pick-clause-value g t c =
    let shape : view c.args.expr.now ≡ pick c.in-Pick.op (use_view c.in-Pick.used) (view c.in-Pick.test.value) = ap view c.in-Pick.is ∙ view-Pick _ _ _ in
    rw (shape, ← c.deref-in-Pick.ensures) c.eval_pick.ensures.value

pub eval-returns-in-Pick-clause-most : goal.eval-returns-in-Pick-clause-most
eval-returns-in-Pick-clause-most g t c =
    let shape : view c.args.expr.now ≡ pick c.in-Pick.op (use_view c.in-Pick.used) (view c.in-Pick.test.value) = ap view c.in-Pick.is ∙ view-Pick _ _ _ in
    rw (shape, ← c.deref-in-Pick.ensures) (one_more _ _ _ _ c.tick.ensures c.eval_pick.ensures.most)

pub eval-returns-in-Pick-clause-visits : goal.eval-returns-in-Pick-clause-visits
eval-returns-in-Pick-clause-visits g t c =
    let shape : view c.args.expr.now ≡ pick c.in-Pick.op (use_view c.in-Pick.used) (view c.in-Pick.test.value) = ap view c.in-Pick.is ∙ view-Pick _ _ _ in
    rw (shape, ← c.deref-in-Pick.ensures) (ok_more c.eval_pick.result _ _ _ _ c.tick.ensures c.eval_pick.ensures.visits)

pub eval-returns-in-Pick-clause-reads : goal.eval-returns-in-Pick-clause-reads
eval-returns-in-Pick-clause-reads g t c =
    let shape : view c.args.expr.now ≡ pick c.in-Pick.op (use_view c.in-Pick.used) (view c.in-Pick.test.value) = ap view c.in-Pick.is ∙ view-Pick _ _ _ in
    rw (shape, ← c.deref-in-Pick.ensures) c.eval_pick.ensures.reads

pub eval-returns-in_ok-first-in-Two-clause-value : goal.eval-returns-in_ok-first-in-Two-clause-value
eval-returns-in_ok-first-in-Two-clause-value g t c =
    let shape : view c.args.expr.now ≡ two c.in-Two.op (view c.in-Two.left.value) (view c.in-Two.right.value) = ap view c.in-Two.is ∙ view-Two _ _ _ in
    rw (shape, ← c.deref-in-Two.ensures, ← c.deref-in-Two-2.ensures) (rw c.in_ok-first-in-Two.ensures.value at c.eval_second.ensures.value)

pub eval-returns-in_ok-first-in-Two-clause-most : goal.eval-returns-in_ok-first-in-Two-clause-most
eval-returns-in_ok-first-in-Two-clause-most g t c =
    let shape : view c.args.expr.now ≡ two c.in-Two.op (view c.in-Two.left.value) (view c.in-Two.right.value) = ap view c.in-Two.is ∙ view-Two _ _ _ in
    rw (shape, ← c.deref-in-Two.ensures, ← c.deref-in-Two-2.ensures) (omega (arith, c.tick.ensures, c.in_ok-first-in-Two.ensures.most, c.eval_second.ensures.most))

pub eval-returns-in_ok-first-in-Two-clause-visits : goal.eval-returns-in_ok-first-in-Two-clause-visits
eval-returns-in_ok-first-in-Two-clause-visits g t c =
    let shape : view c.args.expr.now ≡ two c.in-Two.op (view c.in-Two.left.value) (view c.in-Two.right.value) = ap view c.in-Two.is ∙ view-Two _ _ _ in
    rw (shape, ← c.deref-in-Two.ensures, ← c.deref-in-Two-2.ensures)
    (let ticked = c.tick.ensures in
    let before = c.in_ok-first-in-Two.ensures.visits in
    on_ok_weaker c.eval_second.result (λ now. omega (arith, ticked, before, now)) c.eval_second.ensures.visits)

pub eval-returns-in_ok-first-in-Two-clause-reads : goal.eval-returns-in_ok-first-in-Two-clause-reads
eval-returns-in_ok-first-in-Two-clause-reads g t c =
    let shape : view c.args.expr.now ≡ two c.in-Two.op (view c.in-Two.left.value) (view c.in-Two.right.value) = ap view c.in-Two.is ∙ view-Two _ _ _ in
    rw (shape, ← c.deref-in-Two.ensures, ← c.deref-in-Two-2.ensures)
    (on_ok_weaker c.eval_second.result (λ read keeps. joined _ _ _ _ _ (read keeps) (c.in_ok-first-in-Two.ensures.reads keeps)) c.eval_second.ensures.reads)

-- ---- a list of operands

pub eval_all-returns-in_err-res-clause-most : goal.eval_all-returns-in_err-res-clause-most
eval_all-returns-in_err-res-clause-most g t c =
    let weigh = all_weigh (env_of (g.G.EvalContext.meaning c.args.context.now)) c.args.at c.args.operands.now c.loop-operand.operand-index c.operand-item.result c.loop-operand-test.true c.operand-item.is in
    omega (arith, weigh, c.in_err-res.ensures.most, c.loop-operand.invariant.most)

pub eval_all-loop-operand-preserved : goal.eval_all-loop-operand-preserved
eval_all-loop-operand-preserved g t c =
    let env = env_of (g.G.EvalContext.meaning c.args.context.now) in
    let i = c.loop-operand.operand-index in
    let weigh = all_weigh env c.args.at c.args.operands.now i c.operand-item.result c.loop-operand-test.true c.operand-item.is in
    let visited = all_visits env c.args.at c.args.operands.now i c.operand-item.result c.loop-operand-test.true c.operand-item.is in
    record {
      value =
          all_next env c.args.at c.args.operands.now i c.operand-item.result c.loop-operand-test.true c.operand-item.is c.loop-operand.fold c.see.new.self c.in_ok-res.res c.in_ok-res.ensures.value c.see.ensures.next
          ∙ c.loop-operand.invariant.value;
      count = ap (λ s. s.count) c.see.ensures.next ∙ ap (λ n. n + 1) c.loop-operand.invariant.count;
      reads = λ keeps.
          operand_read env (reads_of (g.G.EvalContext.meaning c.args.context.now)) c.args.at c.args.operands.now i c.operand-item.result c.loop-operand-test.true c.operand-item.is _ _ (c.in_ok-res.ensures.reads keeps)
          ∙ c.loop-operand.invariant.reads keeps;
      visits = omega (arith, visited, c.in_ok-res.ensures.visits, c.loop-operand.invariant.visits);
      most = omega (arith, weigh, c.in_ok-res.ensures.most, c.loop-operand.invariant.most);
    }

pub eval_all-returns-clause-value : goal.eval_all-returns-clause-value
eval_all-returns-clause-value g t c =
    let views = map view c.args.operands.now in
    let none : drop c.loop-operand.operand-index views ≡ [] = drop_all c.loop-operand.operand-index views (omega (arith, length-map c.args.operands.now view, c.loop-operand-test.false)) in
    c.end.ensures.value
    ∙ sym (ap (λ l. many_from c.loop-operand.fold (over_all (env_of (g.G.EvalContext.meaning c.args.context.now)) c.args.at (trees_of l))) none)
    ∙ c.loop-operand.invariant.value
    ∙ many_from-start c.args.op (over_all (env_of (g.G.EvalContext.meaning c.args.context.now)) c.args.at (trees_of views))

pub eval_all-returns-clause-reads : goal.eval_all-returns-clause-reads
eval_all-returns-clause-reads g t c = λ keeps.
    let meaning = g.G.EvalContext.meaning c.args.context.now in
    let views = map view c.args.operands.now in
    let now = g.N.Notes.noted c.loop-operand.notes in
    let none : drop c.loop-operand.operand-index views ≡ [] = drop_all c.loop-operand.operand-index views (omega (arith, length-map c.args.operands.now view, c.loop-operand-test.false)) in
    sym (append-nil now)
    ∙ sym (ap (λ l. now ++ slots_read_of_all (env_of meaning) (reads_of meaning) c.args.at (trees_of l)) none)
    ∙ c.loop-operand.invariant.reads keeps

-- ---- a Switch

pub eval_cases-loop-case-init : goal.eval_cases-loop-case-init
eval_cases-loop-case-init g t c = record {
  value = switch_from-start (over_cases (env_of (g.G.EvalContext.meaning c.args.context.now)) c.args.at (cases_of (map case_view c.args.cases.now)));
  reads = λ keeps. refl;
  visits = refl;
  most = omega arith;
}

pub eval_cases-returns-in_err-step-clause-most : goal.eval_cases-returns-in_err-step-clause-most
eval_cases-returns-in_err-step-clause-most g t c =
    let weigh = cases_weigh (env_of (g.G.EvalContext.meaning c.args.context.now)) c.args.at c.args.cases.now c.loop-case.case-index c.case-item.result c.loop-case-test.true c.case-item.is in
    omega (arith, weigh, c.in_err-step.ensures.most, c.loop-case.invariant.most)

pub eval_cases-returns-in-Take-clause-value : goal.eval_cases-returns-in-Take-clause-value
eval_cases-returns-in-Take-clause-value g t c =
    let env = env_of (g.G.EvalContext.meaning c.args.context.now) in
    ok_same c.take.result _ _
    (case_at env c.args.at c.args.cases.now c.loop-case.case-index c.case-item.result c.loop-case-test.true c.case-item.is c.loop-case.complete (Take c.in-Take.still) (sym c.in-Take.is ∙ c.in_ok-step.ensures.step) ∙ c.loop-case.invariant.value)
    c.take.ensures.value

pub eval_cases-returns-in-Take-clause-visits : goal.eval_cases-returns-in-Take-clause-visits
eval_cases-returns-in-Take-clause-visits g t c =
    let visited =
    cases_visits (env_of (g.G.EvalContext.meaning c.args.context.now)) c.args.at c.args.cases.now c.loop-case.case-index c.case-item.result c.loop-case-test.true c.case-item.is c.loop-case.complete (Take c.in-Take.still) (sym c.in-Take.is ∙ c.in_ok-step.ensures.step) in
    let before = c.in_ok-step.ensures.visits in
    let all = c.loop-case.invariant.visits in
    on_ok_weaker c.take.result (λ now. omega (arith, visited, before, now, all)) c.take.ensures.visits

pub eval_cases-returns-in-Take-clause-most : goal.eval_cases-returns-in-Take-clause-most
eval_cases-returns-in-Take-clause-most g t c =
    let weigh = cases_weigh (env_of (g.G.EvalContext.meaning c.args.context.now)) c.args.at c.args.cases.now c.loop-case.case-index c.case-item.result c.loop-case-test.true c.case-item.is in
    omega (arith, weigh, c.in_ok-step.ensures.most, c.take.ensures.most, c.loop-case.invariant.most)

pub eval_cases-returns-in-Take-clause-reads : goal.eval_cases-returns-in-Take-clause-reads
eval_cases-returns-in-Take-clause-reads g t c =
    let meaning = g.G.EvalContext.meaning c.args.context.now in
    on_ok_weaker c.take.result
    (λ read keeps.
    read keeps
    ∙ case_read (env_of meaning) (reads_of meaning) c.args.at c.args.cases.now c.loop-case.case-index c.case-item.result c.loop-case-test.true c.case-item.is c.loop-case.complete (Take c.in-Take.still) (sym c.in-Take.is ∙ c.in_ok-step.ensures.step) _ _ (c.in_ok-step.ensures.reads keeps)
    ∙ c.loop-case.invariant.reads keeps)
    c.take.ensures.reads

pub eval_cases-returns-in-End-clause-value : goal.eval_cases-returns-in-End-clause-value
eval_cases-returns-in-End-clause-value g t c =
    case_at (env_of (g.G.EvalContext.meaning c.args.context.now)) c.args.at c.args.cases.now c.loop-case.case-index c.case-item.result c.loop-case-test.true c.case-item.is c.loop-case.complete (End c.in-End.res) (sym c.in-End.is ∙ c.in_ok-step.ensures.step)
    ∙ c.loop-case.invariant.value

pub eval_cases-returns-in-End-clause-visits : goal.eval_cases-returns-in-End-clause-visits
eval_cases-returns-in-End-clause-visits g t c =
    let visited =
    cases_visits (env_of (g.G.EvalContext.meaning c.args.context.now)) c.args.at c.args.cases.now c.loop-case.case-index c.case-item.result c.loop-case-test.true c.case-item.is c.loop-case.complete (End c.in-End.res) (sym c.in-End.is ∙ c.in_ok-step.ensures.step) in
    omega (arith, visited, c.in_ok-step.ensures.visits, c.loop-case.invariant.visits)

pub eval_cases-returns-in-End-clause-most : goal.eval_cases-returns-in-End-clause-most
eval_cases-returns-in-End-clause-most g t c =
    let weigh = cases_weigh (env_of (g.G.EvalContext.meaning c.args.context.now)) c.args.at c.args.cases.now c.loop-case.case-index c.case-item.result c.loop-case-test.true c.case-item.is in
    omega (arith, weigh, c.in_ok-step.ensures.most, c.loop-case.invariant.most)

pub eval_cases-returns-in-End-clause-reads : goal.eval_cases-returns-in-End-clause-reads
eval_cases-returns-in-End-clause-reads g t c = λ keeps.
    let meaning = g.G.EvalContext.meaning c.args.context.now in
    let env = env_of meaning in
    let by = reads_of meaning in
    sym (append-nil _)
    ∙ case_read env by c.args.at c.args.cases.now c.loop-case.case-index c.case-item.result c.loop-case-test.true c.case-item.is c.loop-case.complete (End c.in-End.res) (sym c.in-End.is ∙ c.in_ok-step.ensures.step) _ _ (c.in_ok-step.ensures.reads keeps)
    ∙ c.loop-case.invariant.reads keeps

pub eval_cases-loop-case-preserved : goal.eval_cases-loop-case-preserved
eval_cases-loop-case-preserved g t c =
    let env = env_of (g.G.EvalContext.meaning c.args.context.now) in
    let i = c.loop-case.case-index in
    let weigh = cases_weigh env c.args.at c.args.cases.now i c.case-item.result c.loop-case-test.true c.case-item.is in
    let visited =
    cases_visits env c.args.at c.args.cases.now i c.case-item.result c.loop-case-test.true c.case-item.is c.loop-case.complete (Next c.in-Next.still) (sym c.in-Next.is ∙ c.in_ok-step.ensures.step) in
    record {
      value =
          case_at env c.args.at c.args.cases.now i c.case-item.result c.loop-case-test.true c.case-item.is c.loop-case.complete (Next c.in-Next.still) (sym c.in-Next.is ∙ c.in_ok-step.ensures.step)
          ∙ c.loop-case.invariant.value;
      reads = λ keeps.
          case_read env (reads_of (g.G.EvalContext.meaning c.args.context.now)) c.args.at c.args.cases.now i c.case-item.result c.loop-case-test.true c.case-item.is c.loop-case.complete (Next c.in-Next.still) (sym c.in-Next.is ∙ c.in_ok-step.ensures.step) _ _ (c.in_ok-step.ensures.reads keeps)
          ∙ c.loop-case.invariant.reads keeps;
      visits = omega (arith, visited, c.in_ok-step.ensures.visits, c.loop-case.invariant.visits);
      most = omega (arith, weigh, c.in_ok-step.ensures.most, c.loop-case.invariant.most);
    }

pub eval_cases-returns-clause-reads : goal.eval_cases-returns-clause-reads
eval_cases-returns-clause-reads g t c = λ keeps.
    let meaning = g.G.EvalContext.meaning c.args.context.now in
    let views = map case_view c.args.cases.now in
    let now = g.N.Notes.noted c.loop-case.notes in
    let none : drop c.loop-case.case-index views ≡ [] = drop_all c.loop-case.case-index views (omega (arith, length-map c.args.cases.now case_view, c.loop-case-test.false)) in
    sym (append-nil now)
    ∙ sym (ap (λ l. now ++ slots_read_of_cases (env_of meaning) (reads_of meaning) c.args.at (cases_of l)) none)
    ∙ c.loop-case.invariant.reads keeps

-- ---- a Filter and a Find

pub eval_pick-returns-in-Filter-clause-value : goal.eval_pick-returns-in-Filter-clause-value
eval_pick-returns-in-Filter-clause-value g t c =
    rw c.in-Filter.is (rw (c.in_ok-source.ensures.value, c.under-under.ensures, c.base_under.ensures) at c.eval_filter.ensures.value)

pub eval_pick-returns-in-Find-clause-value : goal.eval_pick-returns-in-Find-clause-value
eval_pick-returns-in-Find-clause-value g t c =
    rw c.in-Find.is (rw (c.in_ok-source.ensures.value, c.under-under.ensures, c.base_under.ensures) at c.eval_find.ensures.value)

pub eval_pick-returns-in-Find-clause-reads : goal.eval_pick-returns-in-Find-clause-reads
eval_pick-returns-in-Find-clause-reads g t c =
    rw c.in-Find.is
    (on_ok_weaker c.eval_find.result (λ read keeps. joined _ _ _ _ _ (read keeps) (c.in_ok-source.ensures.reads keeps))
    (rw (c.in_ok-source.ensures.value, c.under-under.ensures, c.base_under.ensures) at c.eval_find.ensures.reads))

pub eval_filter-loop-member-init : goal.eval_filter-loop-member-init
eval_filter-loop-member-init g t c =
    let condition = condition_on (g.G.EvalContext.meaning c.args.context.now) c.args.under (view c.args.test.now) in
    let law = filter_on-source c.args.source.now condition in
    let same = c.members-member-items.ensures.value in
    record {
      value = rw (c.new-kept.ensures.items, c.new-fold.ensures, same) law;
      kept = ap (λ (l : List ℕ). l ++ kept condition c.members-member-items.result.now) c.new-kept.ensures.items ∙ ap (kept condition) same;
      reads = λ keeps. ap (λ (l : List ℕ). g.N.Notes.noted c.args.notes.now ++ flat_map (condition_reads (g.G.EvalContext.meaning c.args.context.now) c.args.under (view c.args.test.now)) l) same;
      visits = ap (λ (l : List ℕ). c.args.steps.now + sum_by (visits_on (g.G.EvalContext.meaning c.args.context.now) c.args.under (view c.args.test.now)) l) same;
      most = omega (arith, ap (sum_by (work_on (g.G.EvalContext.meaning c.args.context.now) c.args.under (view c.args.test.now))) same);
    }

pub eval_filter-loop-member-preserved : goal.eval_filter-loop-member-preserved
eval_filter-loop-member-preserved g t c =
    let i = c.loop-member.member-index in
    let ms = c.members-member-items.result.now in
    let env = env_of (g.G.EvalContext.meaning c.args.context.now) in
    let test = view c.args.test.now in
    let condition = condition_on (g.G.EvalContext.meaning c.args.context.now) c.args.under test in
    let kept_one = c.in_ok-see_member.ensures.kept ∙ ap (λ (p : EvalPosition). kept_next c.loop-member.kept.items (get_or ms i 0) (over env p test)) c.at.ensures in
    let fold_one = c.in_ok-see_member.ensures.fold ∙ ap (λ (p : EvalPosition). verdict_next c.loop-member.fold (over env p test)) c.at.ensures in
    let weigh = members_weigh ms i c.loop-member-test.true (work_on (g.G.EvalContext.meaning c.args.context.now) c.args.under test) in
    let visited = members_weigh ms i c.loop-member-test.true (visits_on (g.G.EvalContext.meaning c.args.context.now) c.args.under test) in
    record {
      value = filter_next ms i c.loop-member-test.true condition c.loop-member.kept.items c.see_member.new.kept.items kept_one c.loop-member.fold c.see_member.new.fold fold_one ∙ c.loop-member.invariant.value;
      kept = kept_more ms i c.loop-member-test.true condition c.loop-member.kept.items c.see_member.new.kept.items kept_one ∙ c.loop-member.invariant.kept;
      reads = λ keeps.
          member_read (condition_reads (g.G.EvalContext.meaning c.args.context.now) c.args.under test) ms i c.loop-member-test.true _ _ (c.in_ok-see_member.ensures.reads keeps ∙ ap (λ (p : EvalPosition). g.N.Notes.noted c.loop-member.notes ++ slots_read env (reads_of (g.G.EvalContext.meaning c.args.context.now)) p test) c.at.ensures)
          ∙ c.loop-member.invariant.reads keeps;
      visits = omega (arith, visited, ap (λ (p : EvalPosition). visits env p test) c.at.ensures, c.in_ok-see_member.ensures.visits, c.loop-member.invariant.visits);
      most = omega (arith, weigh, ap (λ (p : EvalPosition). weight env p test) c.at.ensures, c.in_ok-see_member.ensures.most, c.loop-member.invariant.most);
    }

pub eval_filter-end-requires : goal.eval_filter-end-requires
eval_filter-end-requires g t c =
    let ms = c.members-member-items.result.now in
    let found = c.loop-member.kept.items in
    let condition = condition_on (g.G.EvalContext.meaning c.args.context.now) c.args.under (view c.args.test.now) in
    let none : drop c.loop-member.member-index ms ≡ [] = drop_all c.loop-member.member-index ms c.loop-member-test.false in
    let all : found ≡ kept condition (members_of c.args.source.now) = sym (append-nil found) ∙ sym (ap (λ l. found ++ kept condition l) none) ∙ c.loop-member.invariant.kept in
    rw all (kept-member_list condition (members_of c.args.source.now) (rw c.members-member-items.ensures.value at c.members-member-items.ensures.members))

pub eval_filter-returns-clause-reads : goal.eval_filter-returns-clause-reads
eval_filter-returns-clause-reads g t c = λ keeps.
    let meaning = g.G.EvalContext.meaning c.args.context.now in
    let now = g.N.Notes.noted c.loop-member.notes in
    let none : drop c.loop-member.member-index c.members-member-items.result.now ≡ [] = drop_all c.loop-member.member-index c.members-member-items.result.now c.loop-member-test.false in
    sym (append-nil now)
    ∙ sym (ap (λ (l : List ℕ). now ++ flat_map (condition_reads meaning c.args.under (view c.args.test.now)) l) none)
    ∙ c.loop-member.invariant.reads keeps

pub eval_find-returns-in-Go-clause-value : goal.eval_find-returns-in-Go-clause-value
eval_find-returns-in-Go-clause-value g t c =
    let condition = condition_on (g.G.EvalContext.meaning c.args.context.now) c.args.under (view c.args.test.now) in
    ok_same c.find_among.result _ _
    (ap (find_from condition c.in-Go.complete) c.members.ensures.value
    ∙ ap (λ (v : Verdict). find_after v condition (members_of c.args.source.now)) (sym c.in-Go.is ∙ c.source_verdict.ensures)
    ∙ find_after-start c.args.source.now condition)
    c.find_among.ensures.value

pub find_among-loop-member-preserved : goal.find_among-loop-member-preserved
find_among-loop-member-preserved g t c =
    let i = c.loop-member.member-index in
    let env = env_of (g.G.EvalContext.meaning c.args.context.now) in
    let test = view c.args.test.now in
    let is = c.in_ok-step.ensures.step ∙ ap (λ (p : EvalPosition). case_step c.loop-member.complete (over env p test)) c.at.ensures in
    let weigh = members_weigh c.args.members.now i c.loop-member-test.true (work_on (g.G.EvalContext.meaning c.args.context.now) c.args.under test) in
    let visited =
    found_visits c.args.members.now i c.loop-member-test.true (condition_on (g.G.EvalContext.meaning c.args.context.now) c.args.under test) (visits_on (g.G.EvalContext.meaning c.args.context.now) c.args.under test) c.loop-member.complete (Next c.in-Next.still) (sym c.in-Next.is ∙ is) in
    record {
      value =
          find_at c.args.members.now i c.loop-member-test.true (condition_on (g.G.EvalContext.meaning c.args.context.now) c.args.under test) c.loop-member.complete (Next c.in-Next.still) (sym c.in-Next.is ∙ is)
          ∙ c.loop-member.invariant.value;
      reads = λ keeps.
          judged_read (condition_reads (g.G.EvalContext.meaning c.args.context.now) c.args.under test) c.args.members.now i c.loop-member-test.true _ _ (c.in_ok-step.ensures.reads keeps ∙ ap (λ (p : EvalPosition). g.N.Notes.noted c.loop-member.notes ++ slots_read env (reads_of (g.G.EvalContext.meaning c.args.context.now)) p test) c.at.ensures)
          (condition_on (g.G.EvalContext.meaning c.args.context.now) c.args.under test) c.loop-member.complete (Next c.in-Next.still) (sym c.in-Next.is ∙ is)
          ∙ c.loop-member.invariant.reads keeps;
      visits = omega (arith, visited, ap (λ (p : EvalPosition). visits env p test) c.at.ensures, c.in_ok-step.ensures.visits, c.loop-member.invariant.visits);
      most = omega (arith, weigh, ap (λ (p : EvalPosition). weight env p test) c.at.ensures, c.in_ok-step.ensures.most, c.loop-member.invariant.most);
    }

pub find_among-returns-in-Take-clause-visits : goal.find_among-returns-in-Take-clause-visits
find_among-returns-in-Take-clause-visits g t c =
    let env = env_of (g.G.EvalContext.meaning c.args.context.now) in
    let test = view c.args.test.now in
    let is = c.in_ok-step.ensures.step ∙ ap (λ (p : EvalPosition). case_step c.loop-member.complete (over env p test)) c.at.ensures in
    let visited =
    found_visits c.args.members.now c.loop-member.member-index c.loop-member-test.true (condition_on (g.G.EvalContext.meaning c.args.context.now) c.args.under test) (visits_on (g.G.EvalContext.meaning c.args.context.now) c.args.under test) c.loop-member.complete (Take c.in-Take.still) (sym c.in-Take.is ∙ is) in
    omega (arith, visited, ap (λ (p : EvalPosition). visits env p test) c.at.ensures, c.in_ok-step.ensures.visits, c.loop-member.invariant.visits)

pub find_among-returns-in-Take-clause-reads : goal.find_among-returns-in-Take-clause-reads
find_among-returns-in-Take-clause-reads g t c = λ keeps.
    let meaning = g.G.EvalContext.meaning c.args.context.now in
    let env = env_of meaning in
    let by = reads_of meaning in
    let test = view c.args.test.now in
    let is = c.in_ok-step.ensures.step ∙ ap (λ (p : EvalPosition). case_step c.loop-member.complete (over env p test)) c.at.ensures in
    sym (append-nil _)
    ∙ judged_read (condition_reads meaning c.args.under test) c.args.members.now c.loop-member.member-index c.loop-member-test.true _ _ (c.in_ok-step.ensures.reads keeps ∙ ap (λ (p : EvalPosition). g.N.Notes.noted c.loop-member.notes ++ slots_read env by p test) c.at.ensures)
    (condition_on meaning c.args.under test) c.loop-member.complete (Take c.in-Take.still) (sym c.in-Take.is ∙ is)
    ∙ c.loop-member.invariant.reads keeps

pub find_among-returns-in-End-clause-visits : goal.find_among-returns-in-End-clause-visits
find_among-returns-in-End-clause-visits g t c =
    let env = env_of (g.G.EvalContext.meaning c.args.context.now) in
    let test = view c.args.test.now in
    let is = c.in_ok-step.ensures.step ∙ ap (λ (p : EvalPosition). case_step c.loop-member.complete (over env p test)) c.at.ensures in
    let visited =
    found_visits c.args.members.now c.loop-member.member-index c.loop-member-test.true (condition_on (g.G.EvalContext.meaning c.args.context.now) c.args.under test) (visits_on (g.G.EvalContext.meaning c.args.context.now) c.args.under test) c.loop-member.complete (End c.in-End.none) (sym c.in-End.is ∙ is) in
    omega (arith, visited, ap (λ (p : EvalPosition). visits env p test) c.at.ensures, c.in_ok-step.ensures.visits, c.loop-member.invariant.visits)

pub find_among-returns-in-End-clause-reads : goal.find_among-returns-in-End-clause-reads
find_among-returns-in-End-clause-reads g t c = λ keeps.
    let meaning = g.G.EvalContext.meaning c.args.context.now in
    let env = env_of meaning in
    let by = reads_of meaning in
    let test = view c.args.test.now in
    let is = c.in_ok-step.ensures.step ∙ ap (λ (p : EvalPosition). case_step c.loop-member.complete (over env p test)) c.at.ensures in
    sym (append-nil _)
    ∙ judged_read (condition_reads meaning c.args.under test) c.args.members.now c.loop-member.member-index c.loop-member-test.true _ _ (c.in_ok-step.ensures.reads keeps ∙ ap (λ (p : EvalPosition). g.N.Notes.noted c.loop-member.notes ++ slots_read env by p test) c.at.ensures)
    (condition_on meaning c.args.under test) c.loop-member.complete (End c.in-End.none) (sym c.in-End.is ∙ is)
    ∙ c.loop-member.invariant.reads keeps
