-- What is left of a list of operands, of cases or of members, before and behind the next one.
use Rattle.std.proofs.Common.{◌≡◌, subst, ℕ, ◌+◌, ◌<◌, ◌++◌, Bool, true, false, if◌then◌else◌, List, [], ◌∷◌, refl, sym, ap, ◌∙◌, inl, inr, map, sum_by, length, drop, get_or, add-one}
use Rattle.std.specs.Prelude.{◌⊎◌}
use Rattle.std.proofs.lemmas.List.Sums.{sum_by-cons}
use Rattle.fact_values.specs.declared.value.Value.TheVariants.{Item}
use Rattle.common_lemmas.proofs.Lists.{kept_one}
use Rattle.dict_source.specs.Tree.{Tree}
use Rattle.dict_source.proofs.FindingLaws.{drop-view}
use Rattle.evaluation.specs.Over.{Env, over, over_all, over_cases, weight, weight_of_all, weight_of_cases}
use Rattle.evaluation.specs.SlotsRead.{after_condition, up_to_decider}
use Rattle.operations.specs.CaseSteps.{after_case, case_step, find_from, switch_from, truth_step}
use Rattle.operations.specs.ManyFolds.{ManySeen, many_from, saw}
use Rattle.operations.specs.declared.cases.CaseStep.{CaseStep}
use Rattle.operations.specs.declared.cases.CaseStep.TheVariants.{Next, Take, End}
use Rattle.operations.proofs.StepLaws.{next_member}
use Rattle.three_state.specs.Folds.{filter_on, kept_next, verdict_next}
use Rattle.three_state.specs.Results.{is_true, kept, truth}
use Rattle.three_state.specs.declared.res.Res.{Res}
use Rattle.three_state.specs.declared.res.Res.TheVariants.{Complete, Placeholder, Incomplete, Fault}
use Rattle.three_state.specs.declared.strict.Verdict.{Verdict}
use Rattle.node_eval.specs.Memory.{AfterCondition, Chosen, SomeOf, TakesInAll, TakesInCases, TakesMemory}
use Rattle.node_eval.specs.View.{cases_of, trees_of}
use Rattle.evaluation.specs.Visits.{visits, visits_after, visits_of_all, visits_of_cases}

-- ---- what a condition says of its case, by the step that it leads to

-- the visits behind the condition
abbrev visits_by : CaseStep → ℕ → ℕ → ℕ
visits_by (Next still) given rest = rest
visits_by (Take still) given rest = given
visits_by (End r) given rest = 0

abbrev members_by : CaseStep → List ℕ → List ℕ
members_by (Next still) rest = rest
members_by (Take still) rest = []
members_by (End r) rest = []

abbrev HoldsBy : CaseStep → Type 0 → Type 0 → Type 0
HoldsBy (Next still) Given Rest = Rest
HoldsBy (Take still) Given Rest = Given
HoldsBy (End r) Given Rest = ⊥

visits-truth : (complete b : Bool) (given rest : ℕ) → (if b then given else rest) ≡ visits_by (truth_step complete b) given rest
visits-truth complete true given rest = refl
visits-truth complete false given rest = refl

visits-step : (complete : Bool) (r : Res) (given rest : ℕ) → visits_after r given rest ≡ visits_by (case_step complete r) given rest
unfolding case_step
visits-step complete (Complete v) given rest = visits-truth complete (truth v) given rest
visits-step complete (Placeholder v) given rest = visits-truth false (truth v) given rest
visits-step complete Incomplete given rest = refl
visits-step complete (Fault fault) given rest = refl

members-truth : (complete b : Bool) (rest : List ℕ) → (if b then [] else rest) ≡ members_by (truth_step complete b) rest
members-truth complete true rest = refl
members-truth complete false rest = refl

members-step : (complete : Bool) (r : Res) (rest : List ℕ) → after_condition r [] rest ≡ members_by (case_step complete r) rest
unfolding case_step
members-step complete (Complete v) rest = members-truth complete (truth v) rest
members-step complete (Placeholder v) rest = members-truth false (truth v) rest
members-step complete Incomplete rest = refl
members-step complete (Fault fault) rest = refl

holds-truth : (complete b : Bool) (Given Rest : Type 0) → HoldsBy (truth_step complete b) Given Rest → Chosen b Given Rest
holds-truth complete true Given Rest h = h
holds-truth complete false Given Rest h = h

holds-step : (complete : Bool) (r : Res) (Given Rest : Type 0) → HoldsBy (case_step complete r) Given Rest → AfterCondition r Given Rest
unfolding case_step
holds-step complete (Complete v) Given Rest h = holds-truth complete (truth v) Given Rest h
holds-step complete (Placeholder v) Given Rest h = holds-truth false (truth v) Given Rest h
holds-step complete Incomplete Given Rest h = h
holds-step complete (Fault fault) Given Rest h = h

-- ---- operands

module _ {C R P S X : Type 0} (v : X → Tree C R P) (env : Env C R P S) (at : S) (xs : List X) (i : ℕ) (x : X) (low : i < length xs) (is : x ≡ get_or xs i x) where
  operands_left : drop i (map v xs) ≡ v x ∷ drop (i + 1) (map v xs)
  operands_left = drop-view v xs i (i + 1) x low is (add-one i)

  pub all_next : (fold fold' : ManySeen) (r : Res) → r ≡ over env at (v x) → fold' ≡ saw fold r
      → many_from fold' (over_all env at (trees_of (drop (i + 1) (map v xs)))) ≡ many_from fold (over_all env at (trees_of (drop i (map v xs))))
  all_next fold fold' r f h =
      ap (λ (s : ManySeen). many_from s (over_all env at (trees_of (drop (i + 1) (map v xs))))) (h ∙ ap (saw fold) f)
      ∙ sym (ap (λ l. many_from fold (over_all env at (trees_of l))) operands_left)

  pub all_weigh : weight_of_all env at (trees_of (drop i (map v xs))) ≡ weight env at (v x) + weight_of_all env at (trees_of (drop (i + 1) (map v xs)))
  all_weigh = ap (λ l. weight_of_all env at (trees_of l)) operands_left

  pub all_visit : visits_of_all env at (trees_of (drop i (map v xs))) ≡ visits env at (v x) + visits_of_all env at (trees_of (drop (i + 1) (map v xs)))
  all_visit = ap (λ l. visits_of_all env at (trees_of l)) operands_left

  pub all_take : TakesMemory env at (v x) ⊎ TakesInAll env at (trees_of (drop (i + 1) (map v xs))) → TakesInAll env at (trees_of (drop i (map v xs)))
  all_take h = subst (λ l. TakesInAll env at (trees_of l)) (sym operands_left) h

-- ---- cases

module _ {C R P S X : Type 0} (v : X → Tree C R P × Tree C R P) (env : Env C R P S) (at : S) (xs : List X) (i : ℕ) (x : X) (low : i < length xs) (is : x ≡ get_or xs i x) where
  cases_left : drop i (map v xs) ≡ v x ∷ drop (i + 1) (map v xs)
  cases_left = drop-view v xs i (i + 1) x low is (add-one i)

  pub cases_weigh : weight_of_cases env at (cases_of (drop i (map v xs))) ≡ weight env at (v x).0 + (weight env at (v x).1 + weight_of_cases env at (cases_of (drop (i + 1) (map v xs))))
  cases_weigh = ap (λ l. weight_of_cases env at (cases_of l)) cases_left

  module _ (complete : Bool) (condition : Res) (step : CaseStep) (f : condition ≡ over env at (v x).0) (h : step ≡ case_step complete condition) where
    step_is : case_step complete (over env at (v x).0) ≡ step
    step_is = sym (h ∙ ap (case_step complete) f)

    pub case_at :
        after_case step (over env at (v x).1) (λ still. switch_from still (over_cases env at (cases_of (drop (i + 1) (map v xs))))) ≡ switch_from complete (over_cases env at (cases_of (drop i (map v xs))))
    case_at =
        ap (λ (s : CaseStep). after_case s (over env at (v x).1) (λ still. switch_from still (over_cases env at (cases_of (drop (i + 1) (map v xs)))))) (sym step_is)
        ∙ sym (ap (λ l. switch_from complete (over_cases env at (cases_of l))) cases_left)

    pub case_visit :
        visits_of_cases env at (cases_of (drop i (map v xs))) ≡ visits env at (v x).0 + visits_by step (visits env at (v x).1) (visits_of_cases env at (cases_of (drop (i + 1) (map v xs))))
    case_visit =
        let given = visits env at (v x).1 in
        let rest = visits_of_cases env at (cases_of (drop (i + 1) (map v xs))) in
        ap (λ l. visits_of_cases env at (cases_of l)) cases_left
        ∙ ap (λ n. visits env at (v x).0 + n) (visits-step complete (over env at (v x).0) given rest ∙ ap (λ (s : CaseStep). visits_by s given rest) step_is)

    pub case_takes : HoldsBy step (TakesMemory env at (v x).1) (TakesInCases env at (cases_of (drop (i + 1) (map v xs)))) → TakesInCases env at (cases_of (drop i (map v xs)))
    case_takes k =
        let Given = TakesMemory env at (v x).1 in
        let Rest = TakesInCases env at (cases_of (drop (i + 1) (map v xs))) in
        subst (λ l. TakesInCases env at (cases_of l)) (sym cases_left)
        (inr (holds-step complete (over env at (v x).0) Given Rest (subst (λ (s : CaseStep). HoldsBy s Given Rest) (sym step_is) k)))

  pub test_takes : TakesMemory env at (v x).0 → TakesInCases env at (cases_of (drop i (map v xs)))
  test_takes k = subst (λ l. TakesInCases env at (cases_of l)) (sym cases_left) (inl k)

-- ---- members

module _ (ms : List ℕ) (i : ℕ) (low : i < length ms) where
  pub members_weigh : (work : ℕ → ℕ) → sum_by work (drop i ms) ≡ work (get_or ms i 0) + sum_by work (drop (i + 1) ms)
  members_weigh work = ap (sum_by work) (next_member ms i low) ∙ sum_by-cons work (get_or ms i 0) (drop (i + 1) ms)

  module _ (condition : ℕ → Res) where
    pub member_takes : (Takes : ℕ → Type 0) → Takes (get_or ms i 0) → SomeOf Takes (up_to_decider condition (drop i ms))
    member_takes Takes h = subst (λ l. SomeOf Takes (up_to_decider condition l)) (sym (next_member ms i low)) (inl h)

  module _ (condition : ℕ → Res) (r : Res) (is : r ≡ condition (get_or ms i 0)) where
    module _ (complete : Bool) (step : CaseStep) (h : step ≡ case_step complete r) where
      pub find_at : after_case step (Complete (Item (get_or ms i 0))) (λ still. find_from condition still (drop (i + 1) ms)) ≡ find_from condition complete (drop i ms)
      find_at =
          ap (λ (s : CaseStep). after_case s (Complete (Item (get_or ms i 0))) (λ still. find_from condition still (drop (i + 1) ms))) (h ∙ ap (case_step complete) is)
          ∙ sym (ap (find_from condition complete) (next_member ms i low))

      visited_left : up_to_decider condition (drop i ms) ≡ get_or ms i 0 ∷ members_by step (up_to_decider condition (drop (i + 1) ms))
      visited_left =
          let rest = up_to_decider condition (drop (i + 1) ms) in
          ap (up_to_decider condition) (next_member ms i low)
          ∙ ap (λ l. get_or ms i 0 ∷ l) (ap (λ q. after_condition q [] rest) (sym is) ∙ members-step complete r rest ∙ ap (λ (s : CaseStep). members_by s rest) (sym h))

      pub find_visit : (work : ℕ → ℕ) → sum_by work (up_to_decider condition (drop i ms)) ≡ work (get_or ms i 0) + sum_by work (members_by step (up_to_decider condition (drop (i + 1) ms)))
      find_visit work = ap (sum_by work) visited_left ∙ sum_by-cons work (get_or ms i 0) (members_by step (up_to_decider condition (drop (i + 1) ms)))

      pub find_takes : (Takes : ℕ → Type 0) → SomeOf Takes (members_by step (up_to_decider condition (drop (i + 1) ms))) → SomeOf Takes (up_to_decider condition (drop i ms))
      find_takes Takes k = subst (SomeOf Takes) (sym visited_left) (inr k)

    module _ (found found' : List ℕ) (b : Bool) (test : b ≡ is_true r) (more : found' ≡ (if b then found ++ get_or ms i 0 ∷ [] else found)) where
      more_found : found' ≡ kept_next found (get_or ms i 0) (condition (get_or ms i 0))
      more_found = more ∙ ap (λ (x : Bool). if x then found ++ get_or ms i 0 ∷ [] else found) (test ∙ ap is_true is)

      pub filter_next : (so_far so_far' : Verdict) → so_far' ≡ verdict_next so_far r → filter_on condition found' so_far' (drop (i + 1) ms) ≡ filter_on condition found so_far (drop i ms)
      filter_next so_far so_far' next =
          ap (λ (l : List ℕ). filter_on condition l so_far' (drop (i + 1) ms)) more_found
          ∙ ap (λ (w : Verdict). filter_on condition (kept_next found (get_or ms i 0) (condition (get_or ms i 0))) w (drop (i + 1) ms)) (next ∙ ap (verdict_next so_far) is)
          ∙ sym (ap (filter_on condition found so_far) (next_member ms i low))

      pub kept_more : found' ++ kept condition (drop (i + 1) ms) ≡ found ++ kept condition (drop i ms)
      kept_more =
          ap (λ (l : List ℕ). l ++ kept condition (drop (i + 1) ms)) more_found
          ∙ kept_one (is_true (condition (get_or ms i 0))) found (get_or ms i 0) (kept condition (drop (i + 1) ms))
          ∙ sym (ap (λ l. found ++ kept condition l) (next_member ms i low))
