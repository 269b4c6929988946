-- A Switch and a Find, one condition after another, give what they give of the whole list.
use Rattle.std.proofs.Common.{◌≡◌, ℕ, Bool, true, false, if◌then◌else◌, List, [], ◌∷◌, refl, sym, ◌∙◌}
use Rattle.fact_values.specs.declared.value.Value.TheVariants.{Item}
use Rattle.three_state.specs.Folds.{down_unless, switch_on}
use Rattle.three_state.specs.Laws.{switch_next}
use Rattle.three_state.specs.Results.{find_cases, find_of, members_in, members_of, switch_of, truth}
use Rattle.three_state.specs.declared.res.Res.{Res}
use Rattle.three_state.specs.declared.res.Res.TheVariants.{Complete, Placeholder, Incomplete}
use Rattle.three_state.proofs.RuleLaws.{switch_on-next}
use Rattle.evaluation.specs.Reads.{through_item}
use Rattle.operations.specs.CaseSteps.{after_case, case_step, find_after, find_from, switch_from, truth_step}
use Rattle.operations.specs.ItemSteps.{after_item, item_step}
use Rattle.operations.specs.Sources.{verdict_on_source}
use Rattle.operations.specs.declared.cases.CaseStep.{CaseStep}
use Rattle.operations.specs.declared.cases.CaseStep.TheVariants.{Next, Take, End}

-- ---- one condition

after_case-same : (step : CaseStep) (case : Res) (f g : Bool → Res) → ((still : Bool) → f still ≡ g still) → after_case step case f ≡ after_case step case g
after_case-same (Next complete) case f g same = same complete
after_case-same (Take complete) case f g same = refl
after_case-same (End r) case f g same = refl

after_case-truth : (complete b : Bool) (case : Res) (rest : Bool → Res) → after_case (truth_step complete b) case rest ≡ (if b then down_unless complete case else rest complete)
after_case-truth complete true case rest = refl
after_case-truth complete false case rest = refl

after_case-next : (complete : Bool) (condition case : Res) (cs : List (Res × Res))
    → after_case (case_step complete condition) case (λ still. switch_on still cs) ≡ switch_next complete condition case cs
unfolding case_step
after_case-next complete (Complete v) case cs = after_case-truth complete (truth v) case (λ still. switch_on still cs)
after_case-next complete (Placeholder v) case cs = after_case-truth false (truth v) case (λ still. switch_on still cs)
after_case-next complete _ case cs = refl

-- ---- Switch

no_case : (complete : Bool) → Incomplete ≡ switch_on complete []
no_case true = refl
no_case false = refl

switch_from-on : (complete : Bool) (cs : List (Res × Res)) → switch_from complete cs ≡ switch_on complete cs
switch_from-on complete [] = no_case complete
switch_from-on complete (c ∷ cs) =
    after_case-same (case_step complete c.0) c.1 (λ still. switch_from still cs) (λ still. switch_on still cs) (λ still. switch_from-on still cs)
    ∙ after_case-next complete c.0 c.1 cs
    ∙ sym (switch_on-next complete c.0 c.1 cs)

pub switch_from-start : (cs : List (Res × Res)) → switch_from true cs ≡ switch_of cs
switch_from-start cs = switch_from-on true cs

-- ---- Find

find_from-cases : (condition : ℕ → Res) (complete : Bool) (ms : List ℕ) → find_from condition complete ms ≡ switch_from complete (find_cases condition ms)
find_from-cases condition complete [] = refl
find_from-cases condition complete (m ∷ ms) =
    after_case-same (case_step complete (condition m)) (Complete (Item m)) (λ still. find_from condition still ms) (λ still. switch_from still (find_cases condition ms)) (λ still. find_from-cases condition still ms)

find_from-on : (condition : ℕ → Res) (complete : Bool) (ms : List ℕ) → find_from condition complete ms ≡ switch_on complete (find_cases condition ms)
find_from-on condition complete ms = find_from-cases condition complete ms ∙ switch_from-on complete (find_cases condition ms)

pub find_after-start : (source : Res) (condition : ℕ → Res) → find_after (verdict_on_source source) condition (members_of source) ≡ find_of source condition
find_after-start (Complete v) condition = find_from-on condition true (members_in v)
find_after-start (Placeholder v) condition = find_from-on condition false (members_in v)
find_after-start _ condition = refl

-- ---- a Dependency through an item

pub after_item-step : (item : Res) (field : ℕ → Res) → after_item (item_step item) field ≡ through_item item field
unfolding item_step
after_item-step (Complete (Item m)) field = refl
after_item-step (Placeholder (Item m)) field = refl
after_item-step _ field = refl
