-- The slots that a cursor still goes through.
use Rattle.std.specs.Prelude.{ℕ, suc, ◌-◌, List, [], ◌∷◌, ◌++◌, length, drop, Option, None, Some}
use Rattle.std.specs.List.{flat_map}
use Rattle.fact_values.specs.declared.slot.Slot.{Slot}
use Rattle.dict_source.specs.Dictionary.{Dictionary as Tree}
use Rattle.answers.specs.Answered.{Answered}
use Rattle.dict_meaning.specs.Slots.{slots_of}
use Rattle.saved_text.specs.SavedText.{counted}
use Rattle.saved_text.specs.declared.cursor.Cursor.{Cursor}

-- those of these facts, without the first so many of the first fact
abbrev pub slots_from : Tree → Answered → ℕ → List ℕ → List Slot
slots_from d a gone [] = []
slots_from d a gone (fact ∷ rest) = drop gone (slots_of d a fact) ++ flat_map (slots_of d a) rest

abbrev pub slots_left : Tree → Answered → Cursor → List Slot
slots_left d a c = slots_from d a c.gone (counted (suc c.done) (length d.facts - c.done))

-- the first of these, and the rest where it is gone
abbrev pub first_left : Option Slot → List Slot → List Slot
first_left None rest = []
first_left (Some s) rest = s ∷ rest
