-- What is left of a list of operands, of cases or of members, before and behind the next one.
use Rattle.std.proofs.Common.{◌≡◌, ℕ, suc, ◌+◌, ◌++◌, Bool, true, false, refl, if◌then◌else◌, List, [], ◌∷◌, sym, ap, ◌∙◌, map, sum_by, ◌<◌, length, drop, get_or, add-one, Some}
use Rattle.std.proofs.lemmas.List.Sums.{sum_by-cons}
use Rattle.fact_values.specs.declared.value.Value.TheVariants.{Boolean, Item}
use Rattle.common_lemmas.proofs.Lists.{kept_one}
use Rattle.dict_source.specs.Tree.{Literal, Reading, Source, Use}
use Rattle.dict_source.specs.View.{case_view, cases_of, trees_of, view}
use Rattle.dict_source.specs.declared.expr.Expr.{Expr}
use Rattle.dict_source.specs.declared.expr.Case.{Case}
use Rattle.dict_source.proofs.FindingLaws.{drop-view}
use Rattle.evaluation.specs.Over.{Env, over, over_all, over_cases, weight, weight_of_all, weight_of_cases}
use Rattle.evaluation.specs.SlotsRead.{up_to_decider}
use Rattle.evaluation.specs.Visits.{visits, visits_after, visits_of_all, visits_of_cases}
use Rattle.evaluation.proofs.VisitLaws.{find-visits}
use Rattle.operations.specs.CaseSteps.{after_case, case_step, find_from, switch_from, truth_step}
use Rattle.operations.specs.ManyFolds.{ManySeen, many_from, saw}
use Rattle.operations.specs.declared.cases.CaseStep.{CaseStep}
use Rattle.operations.specs.declared.cases.CaseStep.TheVariants.{Next, Take, End}
use Rattle.operations.proofs.CaseLaws.{switch_from-start}
use Rattle.operations.proofs.StepLaws.{next_member}
use Rattle.three_state.specs.Folds.{down_unless, filter_on, kept_next, verdict_next}
use Rattle.three_state.specs.Results.{is_true, kept, switch_of, truth}
use Rattle.three_state.specs.declared.res.Res.{Res}
use Rattle.three_state.specs.declared.res.Res.TheVariants.{Complete, Placeholder, Incomplete, Fault}
use Rattle.three_state.specs.declared.strict.Verdict.{Verdict}
use Rattle.dict_meaning.specs.Plain.{conditional_body}
use Rattle.dict_meaning.specs.Dependencies.{EvalPosition}
use Rattle.source_eval.specs.Context.{Context, env_of}

-- ---- what is visited behind a condition

abbrev pub after_step : CaseStep → ℕ → ℕ → ℕ
after_step (Next still) given rest = rest
after_step (Take still) given rest = given
after_step (End r) given rest = 0

by_truth : (complete b : Bool) (given rest : ℕ) → after_step (truth_step complete b) given rest ≡ (if b then given else rest)
by_truth complete true given rest = refl
by_truth complete false given rest = refl

by_step : (complete : Bool) (condition : Res) (given rest : ℕ) → after_step (case_step complete condition) given rest ≡ visits_after condition given rest
unfolding case_step
by_step complete (Complete v) given rest = by_truth complete (truth v) given rest
by_step complete (Placeholder v) given rest = by_truth false (truth v) given rest
by_step complete Incomplete given rest = refl
by_step complete (Fault fault) given rest = refl

pub step_visits : (complete : Bool) (condition : Res) (step : CaseStep) (given rest : ℕ) → step ≡ case_step complete condition → visits_after condition given rest ≡ after_step step given rest
step_visits complete condition step given rest is = sym (by_step complete condition given rest) ∙ ap (λ s. after_step s given rest) (sym is)

-- ---- operands

module _ (env : Env Literal Reading Use EvalPosition) (at : EvalPosition) where
  module _ (es : List Expr) (i : ℕ) (t : Expr) (low : i < length es) (is : t ≡ get_or es i t) where
    operands_left : drop i (map view es) ≡ view t ∷ drop (i + 1) (map view es)
    operands_left = drop-view view es i (i + 1) t low is (add-one i)

    pub all_next : (fold fold' : ManySeen) (r : Res) → r ≡ over env at (view t) → fold' ≡ saw fold r
        → many_from fold' (over_all env at (trees_of (drop (i + 1) (map view es)))) ≡ many_from fold (over_all env at (trees_of (drop i (map view es))))
    all_next fold fold' r f h =
        ap (λ (s : ManySeen). many_from s (over_all env at (trees_of (drop (i + 1) (map view es))))) (h ∙ ap (saw fold) f)
        ∙ sym (ap (λ l. many_from fold (over_all env at (trees_of l))) operands_left)

    pub all_weigh : weight_of_all env at (trees_of (drop i (map view es))) ≡ weight env at (view t) + weight_of_all env at (trees_of (drop (i + 1) (map view es)))
    all_weigh = ap (λ l. weight_of_all env at (trees_of l)) operands_left

    pub all_visits : visits_of_all env at (trees_of (drop i (map view es))) ≡ visits env at (view t) + visits_of_all env at (trees_of (drop (i + 1) (map view es)))
    all_visits = ap (λ l. visits_of_all env at (trees_of l)) operands_left

  -- ---- cases

  module _ (cs : List Case) (i : ℕ) (c : Case) (low : i < length cs) (is : c ≡ get_or cs i c) where
    cases_left : drop i (map case_view cs) ≡ case_view c ∷ drop (i + 1) (map case_view cs)
    cases_left = drop-view case_view cs i (i + 1) c low is (add-one i)

    pub case_at : (complete : Bool) (step : CaseStep) → step ≡ case_step complete (over env at (view c.test))
        → after_case step (over env at (view c.outcome)) (λ still. switch_from still (over_cases env at (cases_of (drop (i + 1) (map case_view cs))))) ≡ switch_from complete (over_cases env at (cases_of (drop i (map case_view cs))))
    case_at complete step h =
        ap (λ (s : CaseStep). after_case s (over env at (view c.outcome)) (λ still. switch_from still (over_cases env at (cases_of (drop (i + 1) (map case_view cs)))))) h
        ∙ sym (ap (λ l. switch_from complete (over_cases env at (cases_of l))) cases_left)

    pub cases_weigh : weight_of_cases env at (cases_of (drop i (map case_view cs))) ≡ weight env at (view c.test) + (weight env at (view c.outcome) + weight_of_cases env at (cases_of (drop (i + 1) (map case_view cs))))
    cases_weigh = ap (λ l. weight_of_cases env at (cases_of l)) cases_left

    pub cases_visits : (complete : Bool) (step : CaseStep) → step ≡ case_step complete (over env at (view c.test))
        → visits_of_cases env at (cases_of (drop i (map case_view cs)))
        ≡ visits env at (view c.test) + after_step step (visits env at (view c.outcome)) (visits_of_cases env at (cases_of (drop (i + 1) (map case_view cs))))
    cases_visits complete step is =
        ap (λ l. visits_of_cases env at (cases_of l)) cases_left
        ∙ ap (λ n. visits env at (view c.test) + n)
        (step_visits complete (over env at (view c.test)) step (visits env at (view c.outcome)) (visits_of_cases env at (cases_of (drop (i + 1) (map case_view cs)))) is)

-- a body with a conditional: its value where the condition is true, else the main expression
pub conditional_at : (test value main : Res) (step : CaseStep) → step ≡ case_step true test
    → after_case step value (λ still. down_unless still main) ≡ switch_of ((test, value) ∷ (Complete (Boolean true), main) ∷ [])
unfolding case_step
conditional_at test value main step h =
    ap (λ (s : CaseStep). after_case s value (λ still. down_unless still main)) h ∙ switch_from-start ((test, value) ∷ (Complete (Boolean true), main) ∷ [])

pub conditional_visits : (k : Context) (at : EvalPosition) (test value main : Source) (step : CaseStep) → step ≡ case_step true (over (env_of k) at test)
    → suc (visits (env_of k) at test + after_step step (visits (env_of k) at value) (1 + visits (env_of k) at main)) ≡ visits (env_of k) at (conditional_body (Some (test, value)) main)
conditional_visits k at test value main step is =
    ap (λ n. suc (visits (env_of k) at test + n)) (sym (step_visits true (over (env_of k) at test) step (visits (env_of k) at value) (1 + visits (env_of k) at main) is))

-- ---- members

module _ (ms : List ℕ) (i : ℕ) (low : i < length ms) where
  pub members_weigh : (work : ℕ → ℕ) → sum_by work (drop i ms) ≡ work (get_or ms i 0) + sum_by work (drop (i + 1) ms)
  members_weigh work = ap (sum_by work) (next_member ms i low) ∙ sum_by-cons work (get_or ms i 0) (drop (i + 1) ms)

  module _ (condition : ℕ → Res) where
    pub found_visits : (work : ℕ → ℕ) (complete : Bool) (step : CaseStep) → step ≡ case_step complete (condition (get_or ms i 0))
        → sum_by work (up_to_decider condition (drop i ms)) ≡ work (get_or ms i 0) + after_step step 0 (sum_by work (up_to_decider condition (drop (i + 1) ms)))
    found_visits work complete step is =
        ap (λ l. sum_by work (up_to_decider condition l)) (next_member ms i low)
        ∙ find-visits condition work (get_or ms i 0) (drop (i + 1) ms)
        ∙ ap (λ n. work (get_or ms i 0) + n) (step_visits complete (condition (get_or ms i 0)) step 0 (sum_by work (up_to_decider condition (drop (i + 1) ms))) is)

    pub find_at : (complete : Bool) (step : CaseStep) → step ≡ case_step complete (condition (get_or ms i 0))
        → after_case step (Complete (Item (get_or ms i 0))) (λ still. find_from condition still (drop (i + 1) ms)) ≡ find_from condition complete (drop i ms)
    find_at complete step h =
        ap (λ (s : CaseStep). after_case s (Complete (Item (get_or ms i 0))) (λ still. find_from condition still (drop (i + 1) ms))) h
        ∙ sym (ap (find_from condition complete) (next_member ms i low))

    module _ (found found' : List ℕ) (more : found' ≡ kept_next found (get_or ms i 0) (condition (get_or ms i 0))) where
      pub filter_next : (verdict verdict' : Verdict) → verdict' ≡ verdict_next verdict (condition (get_or ms i 0)) → filter_on condition found' verdict' (drop (i + 1) ms) ≡ filter_on condition found verdict (drop i ms)
      filter_next verdict verdict' next =
          ap (λ (l : List ℕ). filter_on condition l verdict' (drop (i + 1) ms)) more
          ∙ ap (λ (v : Verdict). filter_on condition (kept_next found (get_or ms i 0) (condition (get_or ms i 0))) v (drop (i + 1) ms)) next
          ∙ sym (ap (filter_on condition found verdict) (next_member ms i low))

      pub kept_more : found' ++ kept condition (drop (i + 1) ms) ≡ found ++ kept condition (drop i ms)
      kept_more =
          ap (λ (l : List ℕ). l ++ kept condition (drop (i + 1) ms)) more
          ∙ kept_one (is_true (condition (get_or ms i 0))) found (get_or ms i 0) (kept condition (drop (i + 1) ms))
          ∙ sym (ap (λ l. found ++ kept condition l) (next_member ms i low))
