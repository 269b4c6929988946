-- The text of a saved session: a function of the dictionary and of the answers.
use Rattle.std.specs.Prelude.{ℕ, zero, suc, List, [], ◌∷◌, ◌++◌, length, codes, decimal, Option, Some, None}
use Rattle.std.specs.List.{flat_map}
use Rattle.fact_values.specs.declared.slot.Slot.{Slot}
use Rattle.fact_values.specs.declared.value.Value.{Value}
use Rattle.value_text.specs.MemberTexts.{printed_rest}
use Rattle.value_text.specs.Values.{printed}
use Rattle.script_lines.specs.Joined.{joined}
use Rattle.dict_source.specs.Dictionary.{Dictionary as Tree}
use Rattle.answers.specs.Answered.{Answered, value_of}
use Rattle.answers.specs.declared.edit.Side.{Side}
use Rattle.answers.specs.declared.edit.Side.TheVariants.{Answer, Override}
use Rattle.evaluation.specs.Results.{slot}
use Rattle.dict_meaning.specs.Slots.{slots_of}
use Rattle.dict_meaning.specs.SlotText.{slot_text}
use Rattle.std.specs.FinMap as map

-- ---- lines, each without its newline

abbrev pub opening_line : List ℕ
opening_line = codes "saved 1"

-- the number of the next member
abbrev pub next_line : ℕ → List ℕ
next_line next = codes "next " ++ decimal next

-- `list /N #1 #2`, of an open collection with its members in order
abbrev pub list_line : Tree → ℕ → List ℕ → List ℕ
list_line d c members = codes "list " ++ (slot_text d (slot c 0) ++ printed_rest members)

abbrev pub side_word : Side → List ℕ
side_word Answer = codes "value "
side_word Override = codes "override "

-- `value SLOT V` or `override SLOT V`, with V the printed value
abbrev pub entry_line : Side → Tree → Slot → Value → List ℕ
entry_line side d s v = side_word side ++ (slot_text d s ++ (codes " " ++ printed d.enums v))

abbrev pub end_line : List ℕ
end_line = codes "end"

-- ---- what has a line

-- the line of a fact that is an open collection
abbrev pub list_lines_of : Tree → ℕ → Option (List ℕ) → List (List ℕ)
list_lines_of d c None = []
list_lines_of d c (Some members) = list_line d c members ∷ []

abbrev pub list_lines : Tree → Answered → ℕ → List (List ℕ)
list_lines d a c = list_lines_of d c (map.get a.lists c)

-- the line of a slot that has an answer, or an override
abbrev pub entry_lines_of : Side → Tree → Slot → Option Value → List (List ℕ)
entry_lines_of side d s None = []
entry_lines_of side d s (Some v) = entry_line side d s v ∷ []

abbrev pub entry_lines : Side → Tree → Answered → Slot → List (List ℕ)
entry_lines side d a s = entry_lines_of side d s (value_of side a s)

-- ---- their order

-- so many numbers from this one on
abbrev pub counted : ℕ → ℕ → List ℕ
counted from zero = []
counted from (suc n) = from ∷ counted (suc from) n

-- the facts by their numbers, and the slots that stand, by fact and then by the place of their member
abbrev pub facts : Tree → List ℕ
facts d = counted 1 (length d.facts)

abbrev pub slots : Tree → Answered → List Slot
slots d a = flat_map (slots_of d a) (facts d)

-- ---- the whole text

abbrev pub lists : Tree → Answered → List (List ℕ)
lists d a = flat_map (list_lines d a) (facts d)

abbrev pub entries : Side → Tree → Answered → List (List ℕ)
entries side d a = flat_map (entry_lines side d a) (slots d a)

abbrev pub saved_lines : Tree → Answered → List (List ℕ)
saved_lines d a =
    opening_line ∷ next_line a.next ∷ (
    lists d a
    ++ (entries Answer d a ++ (entries Override d a ++ end_line ∷ [])))

-- each line is ended by a newline
abbrev pub saved : Tree → Answered → List ℕ
saved d a = joined (saved_lines d a)
