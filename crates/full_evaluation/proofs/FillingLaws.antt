-- A table with one more result of plain evaluation is filled at one more slot.
use Rattle.std.proofs.Common.{◌≡◌, ℕ, Bool, true, false, if◌then◌else◌, Some, refl, ap, ◌∙◌}
use Rattle.fact_values.specs.declared.slot.Slot.{Slot}
use Rattle.three_state.specs.declared.res.Res.{Res}
use Rattle.answers.specs.Answered.{Answered}
use Rattle.dict_meaning.specs.Accepted.{Accepted}
use Rattle.dict_meaning.specs.Plain.{plain}
use Rattle.evaluation.specs.Results.{Results, slot}
use Rattle.dict_meaning.specs.Slots.{slot_same}
use Rattle.dict_meaning.proofs.SlotLaws.{slot_same-comm, slot_same-equal}
use Rattle.full_evaluation.specs.Filling.{IsFilled, with_result}

put_if : (d : Accepted) (a : Answered) (results : Results) (s t : Slot) (r : Res) (b : Bool) → slot_same s t ≡ b → Some r ≡ plain d a s → (if b then Some r else results t) ≡ (if b then plain d a t else results t)
put_if d a results s t r true e h = h ∙ ap (plain d a) (slot_same-equal s t e)
put_if d a results s t r false e h = refl

-- a cell that has plain evaluation is a slot that is filled
pub put_is_filled : (d : Accepted) (a : Answered) (before after : Results) (fact m : ℕ) (r : Res) → Some r ≡ plain d a (slot fact m)
    → ((t : Slot) → after t ≡ with_result before (slot fact m) r t) → IsFilled d a before (λ t. slot_same t (slot fact m)) after
put_is_filled d a before after fact m r h put t =
    put t ∙ put_if d a before (slot fact m) t r (slot_same (slot fact m) t) refl h ∙ ap (λ (b : Bool). if b then plain d a t else before t) (slot_same-comm (slot fact m) t)
