-- The number of nodes that the evaluation of a slot visits.
use Rattle.std.specs.Prelude.{◌≡◌, ℕ, ◌+◌, ◌≤◌, if◌then◌else◌, List, Option, Some, None, sum_by}
use Rattle.fact_values.specs.declared.slot.Slot.{Slot}
use Rattle.fact_values.specs.declared.value.Value.{Value}
use Rattle.dict_source.specs.Dictionary.{Dictionary as Tree}
use Rattle.dict_source.specs.Facts.{Fact}
use Rattle.dict_source.specs.Finding.{fact_at}
use Rattle.dict_source.specs.Tree.{Source}
use Rattle.three_state.specs.declared.res.Res.{Res}
use Rattle.three_state.specs.Results.{is_incomplete}
use Rattle.evaluation.specs.Visits.{visits}
use Rattle.answers.specs.Answered.{Answered, value_of}
use Rattle.answers.specs.declared.edit.Side.TheVariants.{Override}
use Rattle.dict_meaning.specs.Accepted.{Accepted, IsAccepted}
use Rattle.dict_meaning.specs.Plain.{IsPlainBelow, at_fact, body, main_result, plain, rank}
use Rattle.dict_meaning.specs.Dependencies.{outermost, source_env}
use Rattle.evaluation.specs.Results.{Results}
use Rattle.dict_meaning.specs.Slots.{standing}
use Rattle.dict_meaning.specs.Touched.{touched}
use Rattle.dict_meaning.specs.Weights.{slot_weight}

-- ---- over any map of results

-- of an expression of the slot's fact
abbrev pub expression_visits : Tree → Results → Slot → Source → ℕ
expression_visits d results s t = visits (source_env d results s.fact) (outermost s.member) t

-- none where an override stands in the body's place
abbrev pub unless_given : Option Value → ℕ → ℕ
unless_given None n = n
unless_given (Some v) n = 0

-- a Writable fact has no body
abbrev pub body_visits : Tree → Answered → Results → Slot → Option Source → ℕ
body_visits d a results s None = 0
body_visits d a results s (Some t) = unless_given (value_of Override a s) (expression_visits d results s t)

-- the placeholder is evaluated where the main result is incomplete
abbrev pub placeholder_visits : Tree → Results → Slot → Option Source → Res → ℕ
placeholder_visits d results s None r = 0
placeholder_visits d results s (Some t) r = if is_incomplete r then expression_visits d results s t else 0

abbrev pub visits_over : Tree → Answered → Results → Slot → Fact → ℕ
visits_over d a results s f = body_visits d a results s (body f) + placeholder_visits d results s f.placeholder (main_result d a results s f.stated (body f))

-- ---- over plain evaluation

abbrev pub slot_visits : Accepted → Answered → Slot → ℕ
slot_visits d a s = at_fact (fact_at d.tree.facts s.fact) 0 (visits_over d.tree a (plain d a) s)

-- of all slots that stand
abbrev pub whole_visits : Accepted → Answered → ℕ
whole_visits d a = sum_by (slot_visits d a) (standing d.tree a)

-- of the slots that a change touches, after it, each once
abbrev pub touched_visits : Accepted → Answered → Answered → ℕ
touched_visits d a b = sum_by (slot_visits d b) (touched d a b)

-- ---- laws

-- as many over any map that has plain evaluation of the facts of lower rank
abbrev pub VisitsOverLower : Type 0
VisitsOverLower =
    (names : List (List ℕ)) (d : Accepted) → IsAccepted names d → (a : Answered) (results : Results) (s : Slot) (f : Fact) → fact_at d.tree.facts s.fact ≡ Some f
    → IsPlainBelow d a (rank d s.fact) results → visits_over d.tree a results s f ≡ slot_visits d a s

-- at most as many as the slot weighs
abbrev pub SlotVisitsWithinWeight : Type 0
SlotVisitsWithinWeight = (d : Accepted) (a : Answered) (s : Slot) → slot_visits d a s ≤ slot_weight d a s
