-- Which results no further answer can change.
use Rattle.std.specs.Prelude.{◌≡◌, ℕ, Bool, true, false, ◌&&◌, ◌||◌, IsTrue, is_some, List, Option, Some}
use Rattle.fact_values.specs.declared.slot.Slot.{Slot}
use Rattle.fact_values.specs.declared.value.Value.{Value}
use Rattle.three_state.specs.declared.res.Res.{Res}
use Rattle.three_state.specs.declared.res.Res.TheVariants.{Complete}
use Rattle.answers.specs.Answered.{Answered, value_of}
use Rattle.answers.specs.declared.edit.Side.TheVariants.{Override}
use Rattle.dict_meaning.specs.Accepted.{Accepted, IsAccepted}
use Rattle.dict_meaning.specs.Extension.{IsExtension}
use Rattle.dict_meaning.specs.Steady.{steady}
use Rattle.dict_meaning.specs.Plain.{plain}

abbrev pub is_complete_in : Option Res → Bool
is_complete_in (Some (Complete v)) = true
is_complete_in _ = false

-- the result is complete, and it is an override or its fact is steady
abbrev pub is_final : Accepted → Answered → Slot → Bool
is_final d a s = is_complete_in (plain d a s) && (is_some (value_of Override a s) || steady d s.fact)

-- ---- a law

-- a final result is complete, with the same value under every extension
abbrev pub FinalStays : Type 0
FinalStays =
    (names : List (List ℕ)) (d : Accepted) → IsAccepted names d → (a b : Answered) → IsExtension d.tree a b
    → (s : Slot) → IsTrue (is_final d a s) → (v : Value) × (plain d a s ≡ Some (Complete v)) × (plain d b s ≡ Some (Complete v))
