-- How a table of results is filled: slot by slot, and fact by fact.
use Rattle.std.specs.Prelude.{◌≡◌, ℕ, ◌&&◌, Bool, nat_eq, if◌then◌else◌, List, Some, None}
use Rattle.std.specs.List.{list_any}
use Rattle.fact_values.specs.declared.slot.Slot.{Slot}
use Rattle.three_state.specs.declared.res.Res.{Res}
use Rattle.answers.specs.Answered.{Answered}
use Rattle.dict_meaning.specs.Accepted.{Accepted}
use Rattle.dict_meaning.specs.Plain.{plain}
use Rattle.dict_meaning.specs.Slots.{slot_same}
use Rattle.evaluation.specs.Results.{Results}

-- the same results, but plain evaluation of the slots that pass a test
abbrev pub filled : Accepted → Answered → Results → (Slot → Bool) → Results
filled d a results test s = if test s then plain d a s else results s

abbrev pub IsFilled : Accepted → Answered → Results → (Slot → Bool) → Results → Type 0
IsFilled d a before test after = (s : Slot) → after s ≡ filled d a before test s

-- it is a slot of the fact, at one of these members
abbrev pub is_at : ℕ → List ℕ → Slot → Bool
is_at fact ms s = nat_eq s.fact fact && list_any (nat_eq s.member) ms

-- it is a slot of one of these facts
abbrev pub is_of : List ℕ → Slot → Bool
is_of facts s = list_any (nat_eq s.fact) facts

-- exactly the slots of these facts have their results
abbrev pub HasFacts : Accepted → Answered → List ℕ → Results → Type 0
HasFacts d a facts results = IsFilled d a (λ s. None) (is_of facts) results

-- all have
abbrev pub HasAll : Accepted → Answered → Results → Type 0
HasAll d a results = (s : Slot) → results s ≡ plain d a s

-- the same results, but for this slot
abbrev pub with_result : Results → Slot → Res → Results
with_result results t r s = if slot_same t s then Some r else results s
