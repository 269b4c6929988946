-- A Switch and a Find, one condition after another, as loops take them.
use Rattle.std.specs.Prelude.{ℕ, Bool, true, false, List, [], ◌∷◌}
use Rattle.fact_values.specs.declared.value.Value.TheVariants.{Item}
use Rattle.three_state.specs.Folds.{down_unless}
use Rattle.three_state.specs.Results.{truth}
use Rattle.three_state.specs.declared.res.Res.{Res}
use Rattle.three_state.specs.declared.res.Res.TheVariants.{Complete, Placeholder, Incomplete, Fault}
use Rattle.three_state.specs.declared.strict.Verdict.{Verdict}
use Rattle.three_state.specs.declared.strict.Verdict.TheVariants as verdict
use Rattle.operations.specs.declared.cases.CaseStep.{CaseStep}
use Rattle.operations.specs.declared.cases.CaseStep.TheVariants.{Next, Take, End}

abbrev pub truth_step : Bool → Bool → CaseStep
truth_step complete true = Take complete
truth_step complete false = Next complete

-- what a condition says of its case, where the flag says that no condition before it rested on a placeholder
unfoldable pub case_step : Bool → Res → CaseStep
case_step complete (Complete v) = truth_step complete (truth v)
case_step complete (Placeholder v) = truth_step false (truth v)
case_step complete Incomplete = End Incomplete
case_step complete (Fault fault) = End (Fault fault)

-- the result, from that of the case, and from the cases behind it
abbrev pub after_case : CaseStep → Res → (Bool → Res) → Res
after_case (Next complete) case rest = rest complete
after_case (Take complete) case rest = down_unless complete case
after_case (End r) case rest = r

-- what the cases that are left give, where the flag says that no condition before them rested on a placeholder
abbrev pub switch_from : Bool → List (Res × Res) → Res
switch_from complete [] = Incomplete
switch_from complete (c ∷ cs) = after_case (case_step complete c.0) c.1 (λ still. switch_from still cs)

-- the same of the members that are left
abbrev pub find_from : (ℕ → Res) → Bool → List ℕ → Res
find_from condition complete [] = Incomplete
find_from condition complete (m ∷ ms) = after_case (case_step complete (condition m)) (Complete (Item m)) (λ still. find_from condition still ms)

-- the same, from the verdict on the collection
abbrev pub find_after : Verdict → (ℕ → Res) → List ℕ → Res
find_after (verdict.Go complete) condition ms = find_from condition complete ms
find_after verdict.Incomplete condition ms = Incomplete
find_after (verdict.Fault fault) condition ms = Fault fault
