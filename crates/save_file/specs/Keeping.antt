-- How the kept lines of a carried text give answers, one after another.
use Rattle.std.specs.Prelude.{◌≡◌, ℕ, Bool, true, false, IsTrue, List, [], ◌∷◌, ◌++◌, Option, Some, None, Contains, nat_eq, if◌then◌else◌}
use Rattle.std.specs.List.{All, find, flat_map}
use Rattle.fact_paths.specs.declared.slot_path.SlotPath.{SlotPath}
use Rattle.fact_values.specs.declared.slot.Slot.{Slot}
use Rattle.fact_values.specs.declared.value.Value.{Value}
use Rattle.dict_source.specs.Dictionary.{Dictionary as Tree}
use Rattle.answers.specs.Answered.{Answered}
use Rattle.answers.specs.Change.{applied, sets}
use Rattle.answers.specs.declared.edit.Side.{Side}
use Rattle.dict_meaning.specs.Fits.{takes}
use Rattle.graph_session.specs.Judging.{value_spelled}
use Rattle.graph_session.specs.Naming.{fact_of, lacks_member, named_fact, slot_of}
use Rattle.saved_text.specs.CarriedText.{CarriedLine, collection, entry, members_in}
use Rattle.save_file.specs.Carrying.{kept_collection}
use Rattle.saved_text.specs.SavedText.{facts}

-- ---- lists

-- the line opens this collection
abbrev pub is_number : ℕ → Option ℕ → Bool
is_number fact None = false
is_number fact (Some n) = nat_eq n fact

abbrev pub opens_fact : Tree → ℕ → CarriedLine → Bool
opens_fact d fact (collection name members) = is_number fact (kept_collection d name)
opens_fact d fact (entry side path text) = false

-- what the first such line gives the collection
abbrev pub opened_by : ℕ → Option CarriedLine → List (ℕ × List ℕ)
opened_by fact None = []
opened_by fact (Some line) = (fact, members_in line) ∷ []

abbrev pub opened_at : Tree → List CarriedLine → ℕ → List (ℕ × List ℕ)
opened_at d lines fact = opened_by fact (find (opens_fact d fact) lines)

-- the open collections, by their facts
abbrev pub opened : Tree → List CarriedLine → List (ℕ × List ℕ)
opened d lines = flat_map (opened_at d lines) (facts d)

-- ---- entries

-- the value that the text gives the fact's slots on the side, by the type of the fact alone
abbrev pub taken_value : Tree → Side → ℕ → List ℕ → Option Value
taken_value d side fact text = if takes side d fact then value_spelled d fact text else None

-- which value a text gives the slots of a fact on a side, if any
abbrev pub Giving : Type 0
Giving = Side → ℕ → List ℕ → Option Value

-- only such a value
abbrev pub IsGiving : Tree → Giving → Type 0
IsGiving d gives = (side : Side) (fact : ℕ) (text : List ℕ) (v : Value) → gives side fact text ≡ Some v → IsTrue (takes side d fact) × (value_spelled d fact text ≡ Some v)

-- with a value of the path's slot
abbrev pub with_value : Tree → Side → SlotPath → Option Value → Answered → Answered
with_value d side path None a = a
with_value d side path (Some v) a = applied (sets side (slot_of d path) (Some v)) a

-- with what the line gives a slot, and with what lines give
abbrev pub with_line : Tree → Giving → Answered → CarriedLine → Answered
with_line d gives a (collection name members) = a
with_line d gives a (entry side path text) = with_value d side path (gives side (fact_of d path) text) a

abbrev pub entered : Tree → Giving → Answered → List CarriedLine → Answered
entered d gives a [] = a
entered d gives a (line ∷ lines) = entered d gives (with_line d gives a line) lines

-- some line gives the slot this value on the side
abbrev pub IsGiven : Tree → Giving → List CarriedLine → Side → Slot → Value → Type 0
IsGiven d gives lines side s v =
    (path : SlotPath) × (text : List ℕ) × Contains lines (entry side path text) × (slot_of d path ≡ s) × (gives side s.fact text ≡ Some v)

-- a member in the path stands where the path's fact is there
abbrev pub IsPlaced : Tree → Answered → SlotPath → Type 0
IsPlaced d a path = (n : ℕ) → named_fact d path ≡ Some n → lacks_member d a path ≡ false

-- so of a line's path, and of all lines
abbrev pub IsLinePlaced : Tree → Answered → CarriedLine → Type 0
IsLinePlaced d a (collection name members) = Unit {0}
IsLinePlaced d a (entry side path text) = IsPlaced d a path

abbrev pub ArePlaced : Tree → Answered → List CarriedLine → Type 0
ArePlaced d a lines = All (IsLinePlaced d a) lines

-- the number goes to the others where the line isn't kept
abbrev pub noted : Bool → ℕ → List ℕ → List ℕ
noted true n ns = ns
noted false n ns = ns ++ n ∷ []
