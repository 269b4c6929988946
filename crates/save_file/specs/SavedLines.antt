-- The lines of a saved text, as carrying sees them: one for each list, answer and override; so each is kept or listed.
use Rattle.std.specs.Prelude.{◌≡◌, ℕ, ◌+◌, List, slice_get, Contains, Some}
use Rattle.fact_paths.specs.declared.slot_path.SlotPath.{SlotPath}
use Rattle.fact_paths.specs.declared.slot_path.SlotPath.TheVariants.{Global}
use Rattle.fact_values.specs.declared.slot.Slot.{Slot}
use Rattle.fact_values.specs.declared.value.Value.{Value}
use Rattle.value_text.specs.Enums.{AreLists}
use Rattle.value_text.specs.Values.{printed}
use Rattle.dict_source.specs.Dictionary.{Dictionary as Tree}
use Rattle.answers.specs.Answered.{Answered, value_of}
use Rattle.answers.specs.declared.edit.Side.{Side}
use Rattle.dict_meaning.specs.Accepted.{Accepted, IsAccepted}
use Rattle.evaluation.specs.Results.{slot}
use Rattle.dict_meaning.specs.Fits.{AnswersFit}
use Rattle.dict_meaning.specs.SlotText.{slot_path}
use Rattle.graph_session.specs.Rules.{Rules}
use Rattle.saved_text.specs.CarriedText.{CarriedLine, CarriedText, IsCarried, carried, collection, entry, key_text}
use Rattle.save_file.specs.Carrying.{IsCarry, IsKeptOrListed}
use Rattle.saved_text.specs.SavedText.{entry_line, list_line, saved, saved_lines}
use Rattle.std.specs.FinMap as map

-- ---- one line each

-- the line stands at this place, from 0, and no other is of its kind and names what it names
abbrev pub IsOnlyAt : List CarriedLine → ℕ → CarriedLine → Type 0
IsOnlyAt lines place line =
    (slice_get lines place ≡ Some line) × ((other : ℕ) (l : CarriedLine) → slice_get lines other ≡ Some l → key_text l ≡ key_text line → other ≡ place)

-- the answers have what the line says
abbrev pub IsSaid : Tree → Answered → CarriedLine → Type 0
IsSaid d a (collection name members) = (c : ℕ) × (map.get a.lists c ≡ Some members) × (slot_path d (slot c 0) ≡ Some (Global name))
IsSaid d a (entry side path text) = (s : Slot) × (v : Value) × (value_of side a s ≡ Some v) × (slot_path d s ≡ Some path) × (text ≡ printed d.enums v)

-- each open collection has one line with its name and members, and each value of a side has one with its slot's path and its text
pub record HasALineEach (d : Tree) (a : Answered) (c : CarriedText) : Type 0 where
  pub number : c.next ≡ a.next
  pub lists : (fact : ℕ) (members : List ℕ) → map.get a.lists fact ≡ Some members
      → (name : List ℕ) × (place : ℕ) × (slot_path d (slot fact 0) ≡ Some (Global name)) × IsOnlyAt c.lines place (collection name members)
  pub values : (side : Side) (s : Slot) (v : Value) → value_of side a s ≡ Some v
      → (path : SlotPath) × (place : ℕ) × (slot_path d s ≡ Some path) × IsOnlyAt c.lines place (entry side path (printed d.enums v))
  pub only : (line : CarriedLine) → Contains c.lines line → IsSaid d a line

-- ---- laws

-- The saved text of answers, read as a carried text, has one line for each list, answer and override, and no other.
abbrev pub SavedTextsHaveALineEach : Type 0
SavedTextsHaveALineEach =
    (names : List (List ℕ)) (d : Accepted) → IsAccepted names d → AreLists d.tree.enums → (a : Answered) → AnswersFit d.tree a
    → (c : CarriedText) → IsCarried c → saved d.tree a ≡ carried c → HasALineEach d.tree a c

-- each of them has a line in the saved text, at a place from 0, and what that says is in the carried answers, or its number is listed
pub record KeepsOrListsAll (d : Tree) (a : Answered) (r : Rules) (b : Answered) (dropped : List ℕ) : Type 0 where
  pub lists : (fact : ℕ) (members : List ℕ) → map.get a.lists fact ≡ Some members
      → (name : List ℕ) × (place : ℕ) × (slot_path d (slot fact 0) ≡ Some (Global name)) × (slice_get (saved_lines d a) place ≡ Some (list_line d fact members))
      × IsKeptOrListed r b dropped (place + 1) (collection name members)
  pub values : (side : Side) (s : Slot) (v : Value) → value_of side a s ≡ Some v
      → (path : SlotPath) × (place : ℕ) × (slot_path d s ≡ Some path) × (slice_get (saved_lines d a) place ≡ Some (entry_line side d s v))
      × IsKeptOrListed r b dropped (place + 1) (entry side path (printed d.enums v))

-- Over whatever rules the saved text of answers is carried, no answer is lost unsaid.
abbrev pub EachAnswerIsKeptOrListed : Type 0
EachAnswerIsKeptOrListed =
    (names : List (List ℕ)) (d : Accepted) → IsAccepted names d → AreLists d.tree.enums → (a : Answered) → AnswersFit d.tree a
    → (r : Rules) (b : Answered) (dropped : List ℕ) → IsCarry r (saved d.tree a) b dropped → KeepsOrListsAll d.tree a r b dropped
