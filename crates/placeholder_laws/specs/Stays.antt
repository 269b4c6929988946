-- When a slot's result is complete, with the same value under every extension of the answers.
use Rattle.std.specs.Prelude.{◌≡◌, Bool, true, false, Some}
use Rattle.fact_values.specs.declared.slot.Slot.{Slot}
use Rattle.fact_values.specs.declared.value.Value.{Value}
use Rattle.three_state.specs.declared.res.Res.{Res}
use Rattle.three_state.specs.declared.res.Res.TheVariants.{Complete, Placeholder, Incomplete, Fault}
use Rattle.answers.specs.Answered.{Answered}
use Rattle.dict_meaning.specs.Accepted.{Accepted}
use Rattle.dict_meaning.specs.Extension.{IsExtension}
use Rattle.dict_meaning.specs.Plain.{plain}

abbrev pub is_complete : Res → Bool
is_complete (Complete v) = true
is_complete (Placeholder v) = false
is_complete Incomplete = false
is_complete (Fault f) = false

-- the slot's result is complete, with the same value under every extension of the answers
abbrev pub Stays : Accepted → Answered → Slot → Type 0
Stays d a s = (v : Value) × (plain d a s ≡ Some (Complete v)) × ((b : Answered) → IsExtension d.tree a b → plain d b s ≡ Some (Complete v))
