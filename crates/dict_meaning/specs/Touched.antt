-- Which slots a change touches, and their stamps.
use Rattle.std.specs.Prelude.{◌≡◌, ℕ, Bool, false, not, ◌&&◌, ◌||◌, IsTrue, if◌then◌else◌, List, length, filter}
use Rattle.std.specs.List.{list_any}
use Rattle.std.specs.FinMap as map
use Rattle.std.specs.Str.{bytes_eq}
use Rattle.fact_values.specs.declared.slot.Slot.{Slot}
use Rattle.three_state.specs.Equality.{res_same, value_same}
use Rattle.answers.specs.Answered.{Answered, value_of}
use Rattle.answers.specs.declared.edit.Side.TheVariants.{Answer, Override}
use Rattle.dict_meaning.specs.Accepted.{Accepted, IsAccepted}
use Rattle.dict_meaning.specs.Feeds.{feeds}
use Rattle.dict_meaning.specs.Extension.{both_same, extends}
use Rattle.dict_meaning.specs.Final.{is_final}
use Rattle.dict_meaning.specs.Fits.{AnswersFit}
use Rattle.dict_meaning.specs.Plain.{plain}
use Rattle.dict_meaning.specs.Slots.{stands, standing}

-- the slot has the same answer, the same override and, as a collection, is open with the same members or isn't open
abbrev pub same_entry : Answered → Answered → Slot → Bool
same_entry a b s =
    both_same value_same (value_of Answer a s) (value_of Answer b s)
    && both_same value_same (value_of Override a s) (value_of Override b s)
    && both_same bytes_eq (map.get a.lists s.fact) (map.get b.lists s.fact)

-- the slot stands in both, with different results
abbrev pub has_moved : Accepted → Answered → Answered → Slot → Bool
has_moved d a b t = stands d.tree a t && stands d.tree b t && not (both_same res_same (plain d a t) (plain d b t))

-- some slot that feeds this one has moved
abbrev pub is_fed : Accepted → Answered → Answered → Slot → Bool
is_fed d a b s = list_any (λ t. feeds d.tree t s && has_moved d a b t) (standing d.tree b)

-- The change from a to b touches a slot that stands in b where it doesn't stand in a, has another entry, or is fed by one that
-- has moved. The last falls away for a slot that is final in a, where b extends a.
abbrev pub touches : Accepted → Answered → Answered → Slot → Bool
touches d a b s = not (stands d.tree a s) || not (same_entry a b s) || (is_fed d a b s && not (extends d.tree a b && is_final d a s))

-- the slots that a change touches
abbrev pub touched : Accepted → Answered → Answered → List Slot
touched d a b = filter (touches d a b) (standing d.tree b)

-- how many they are
abbrev pub touched_count : Accepted → Answered → Answered → ℕ
touched_count d a b = length (touched d a b)

-- the stamps after the change of number k
abbrev pub stamped : Accepted → Answered → Answered → ℕ → (Slot → ℕ) → Slot → ℕ
stamped d a b k stamps s = if touches d a b s then k else stamps s

-- ---- laws

-- a slot that stands and isn't touched keeps its result
abbrev pub UntouchedKeeps : Type 0
UntouchedKeeps =
    (names : List (List ℕ)) (d : Accepted) → IsAccepted names d → (a b : Answered) → AnswersFit d.tree a → AnswersFit d.tree b
    → (s : Slot) → IsTrue (stands d.tree b s) → touches d a b s ≡ false → plain d a s ≡ plain d b s
