-- The rules one result after another, as loops take them: the result so far, and what it becomes with the results that are left.
use Rattle.std.specs.Prelude.{ℕ, Bool, false, if◌then◌else◌, List, [], ◌∷◌, ◌++◌, Ok}
use Rattle.fact_values.specs.declared.value.Value.TheVariants.{Members}
use Rattle.three_state.specs.declared.res.Res.{Res}
use Rattle.three_state.specs.declared.res.Res.TheVariants.{Complete, Placeholder, Incomplete, Fault}
use Rattle.three_state.specs.declared.strict.Verdict.{Verdict}
use Rattle.three_state.specs.declared.strict.Verdict.TheVariants as verdict
use Rattle.three_state.specs.Results.{after_verdict, down, is_true, junction, switch_of}

-- ---- strict operations

abbrev pub verdict_next : Verdict → Res → Verdict
verdict_next (verdict.Go complete) (Complete v) = verdict.Go complete
verdict_next (verdict.Go complete) (Placeholder v) = verdict.Go false
verdict_next (verdict.Go complete) Incomplete = verdict.Incomplete
verdict_next (verdict.Go complete) (Fault fault) = verdict.Fault fault
verdict_next verdict.Incomplete r = verdict.Incomplete
verdict_next (verdict.Fault first) Incomplete = verdict.Incomplete
verdict_next (verdict.Fault first) r = verdict.Fault first

abbrev pub verdict_on : Verdict → List Res → Verdict
verdict_on so_far [] = so_far
verdict_on so_far (r ∷ rs) = verdict_on (verdict_next so_far r) rs

-- ---- All and Any

-- what was seen counts as one operand
unfoldable pub junction_next : Bool → Res → Res → Res
junction_next decider so_far r = junction decider (so_far ∷ r ∷ [])

abbrev pub junction_on : Bool → Res → List Res → Res
junction_on decider so_far [] = so_far
junction_on decider so_far (r ∷ rs) = junction_on decider (junction_next decider so_far r) rs

-- ---- Switch and Find

-- what the cases that are left give, where the flag says that no placeholder was passed
abbrev pub down_unless : Bool → Res → Res
down_unless complete r = if complete then r else down r

abbrev pub switch_on : Bool → List (Res × Res) → Res
switch_on complete cs = down_unless complete (switch_of cs)

-- ---- Filter

abbrev pub kept_next : List ℕ → ℕ → Res → List ℕ
kept_next found m r = if is_true r then found ++ m ∷ [] else found

-- from the members found and the verdict on the conditions so far
abbrev pub filter_on : (ℕ → Res) → List ℕ → Verdict → List ℕ → Res
filter_on condition found so_far [] = after_verdict so_far (Ok (Members found))
filter_on condition found so_far (m ∷ ms) = filter_on condition (kept_next found m (condition m)) (verdict_next so_far (condition m)) ms
