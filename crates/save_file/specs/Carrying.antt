-- Which lines of a carried text are kept over a dictionary, which answers they give, and what is said of the others.
use Rattle.std.specs.Prelude.{◌≡◌, ◌↔◌, ℕ, suc, ◌+◌, ◌&&◌, Bool, not, IsTrue, nat_eq, List, [], ◌∷◌, Option, Some, None, IsSome, false, is_none, is_some, slice_get, Contains, if◌then◌else◌}
use Rattle.std.specs.List.{list_any}
use Rattle.fact_paths.specs.declared.slot_path.SlotPath.{SlotPath}
use Rattle.fact_paths.specs.declared.slot_path.SlotPath.TheVariants.{Global}
use Rattle.fact_values.specs.declared.slot.Slot.{Slot}
use Rattle.fact_values.specs.declared.value.Value.{Value}
use Rattle.dict_source.specs.Dictionary.{Dictionary as Tree}
use Rattle.answers.specs.Answered.{Answered, value_of}
use Rattle.answers.specs.declared.edit.Side.{Side}
use Rattle.answers.specs.declared.edit.Side.TheVariants.{Answer, Override}
use Rattle.value_text.specs.Enums.{AreLists}
use Rattle.dict_meaning.specs.Accepted.{Accepted, IsAccepted}
use Rattle.dictionary.specs.AcceptedParts.{names_of}
use Rattle.dict_meaning.specs.Fits.{AnswersFit, is_answered_by, is_list, is_overridden_by}
use Rattle.graph_session.specs.Judging.{value_spelled}
use Rattle.graph_session.specs.Naming.{fact_of, slot_of}
use Rattle.graph_session.specs.Refusals.{first_of, limit_refusals, value_refusals}
use Rattle.graph_session.specs.Rules.{Rules, tree_of}
use Rattle.saved_text.specs.CarriedText.{CarriedLine, CarriedText, IsCarried, IsCarriedText, carried, collection, entry}
use Rattle.saved_text.specs.Refused.{IsRefusedAt}
use Rattle.saved_text.specs.SavedText.{saved}
use Rattle.saved_text.specs.declared.fault.LoadFault.{LoadFault}
use Rattle.saved_text.specs.declared.fault.LoadFault.TheVariants.{BadSaved, NoMemory}
use Rattle.std.specs.FinMap as map

-- ---- which lines are kept

-- The value that the text gives the fact's slots on the side. An answer's fact is Writable and no collection, and no limit and no
-- check refuses the value; an override's fact is Derived, and no Collection and no Item. There is none where the text is dropped.
abbrev pub kept_value : Rules → Side → ℕ → List ℕ → Option Value
kept_value r Answer fact text = if is_answered_by (tree_of r) fact && is_none (first_of (value_refusals r fact text)) then value_spelled (tree_of r) fact text else None
kept_value r Override fact text = if is_overridden_by (tree_of r) fact then value_spelled (tree_of r) fact text else None

-- the Writable collection of this name
abbrev pub kept_collection : Tree → List ℕ → Option ℕ
kept_collection d name = if is_list d (fact_of d (Global name)) then Some (fact_of d (Global name)) else None

abbrev pub keeps : Rules → CarriedLine → Bool
keeps r (collection name members) = is_some (kept_collection (tree_of r) name)
keeps r (entry side path text) = is_some (kept_value r side (fact_of (tree_of r) path) text)

-- ---- the answers of the kept lines

-- some line that is kept opens the collection with these members
abbrev pub IsOpenedBy : Rules → List CarriedLine → ℕ → List ℕ → Type 0
IsOpenedBy r lines c members = (name : List ℕ) × Contains lines (collection name members) × (kept_collection (tree_of r) name ≡ Some c)

-- some line that is kept gives the slot this value on the side
abbrev pub IsGivenBy : Rules → List CarriedLine → Side → Slot → Value → Type 0
IsGivenBy r lines side s v =
    (path : SlotPath) × (text : List ℕ) × Contains lines (entry side path text) × (slot_of (tree_of r) path ≡ s) × (kept_value r side s.fact text ≡ Some v)

-- they have what the kept lines say, and nothing else; the next number is the text's
pub record AreOfKept (r : Rules) (c : CarriedText) (a : Answered) : Type 0 where
  pub number : a.next ≡ c.next
  pub lists : (fact : ℕ) (members : List ℕ) → (map.get a.lists fact ≡ Some members) ↔ IsOpenedBy r c.lines fact members
  pub values : (side : Side) (s : Slot) (v : Value) → (value_of side a s ≡ Some v) ↔ IsGivenBy r c.lines side s v

-- ---- the numbers of the other lines

-- of those that fail the test, where the first has this number
abbrev pub numbers_failing : {X : Type 0} → (X → Bool) → ℕ → List X → List ℕ
numbers_failing test n [] = []
numbers_failing test n (x ∷ xs) = if test x then numbers_failing test (suc n) xs else n ∷ numbers_failing test (suc n) xs

-- the first two lines of the text are kept
abbrev pub dropped_numbers : Rules → List CarriedLine → List ℕ
dropped_numbers r lines = numbers_failing (keeps r) 3 lines

-- ---- what carrying says

pub record IsCarryOf (r : Rules) (c : CarriedText) (a : Answered) (dropped : List ℕ) : Type 0 where
  pub kept : AreOfKept r c a
  pub fit : AnswersFit (tree_of r) a
  pub others : dropped ≡ dropped_numbers r c.lines

-- the bytes are a carried text, which gives these answers
abbrev pub IsCarry : Rules → List ℕ → Answered → List ℕ → Type 0
IsCarry r bytes a dropped = (c : CarriedText) × IsCarried c × (bytes ≡ carried c) × IsCarryOf r c a dropped

-- what a fault says; want of memory says nothing
abbrev pub RefusesCarried : List ℕ → LoadFault → Type 0
RefusesCarried bytes (BadSaved n) = IsRefusedAt IsCarriedText bytes n
RefusesCarried bytes NoMemory = Unit {0}

-- ---- laws

-- the answers have what the line says
abbrev pub IsKept : Rules → Answered → CarriedLine → Type 0
IsKept r a (collection name members) = map.get a.lists (fact_of (tree_of r) (Global name)) ≡ Some members
IsKept r a (entry side path text) = value_of side a (slot_of (tree_of r) path) ≡ kept_value r side (fact_of (tree_of r) path) text

-- what the line says is in the answers, or its number is listed, and never both
abbrev pub IsKeptOrListed : Rules → Answered → List ℕ → ℕ → CarriedLine → Type 0
IsKeptOrListed r a dropped number line = (list_any (nat_eq number) dropped ≡ not (keeps r line)) × (IsTrue (keeps r line) → IsKept r a line)

-- so of each line: the one at a place, from 0, has the number 3 more
abbrev pub EachLineIsKeptOrListed : Type 0
EachLineIsKeptOrListed =
    (r : Rules) (c : CarriedText) (a : Answered) (dropped : List ℕ) → IsCarryOf r c a dropped
    → (place : ℕ) (line : CarriedLine) → slice_get c.lines place ≡ Some line → IsKeptOrListed r a dropped (place + 3) line

-- carrying gives one result
abbrev pub CarryingGivesOne : Type 0
CarryingGivesOne =
    (r : Rules) (bytes : List ℕ) (a b : Answered) (dropped others : List ℕ) → IsCarry r bytes a dropped → IsCarry r bytes b others
    → (a ≡ b) × (dropped ≡ others)

-- an answer whose text is a value that a limit or a check refuses
abbrev pub IsRefusedAnswer : Rules → CarriedLine → Type 0
IsRefusedAnswer r (collection name members) = ⊥
IsRefusedAnswer r (entry Answer path text) =
    (v : Value) × (value_spelled (tree_of r) (fact_of (tree_of r) path) text ≡ Some v) × IsSome (first_of (limit_refusals r (fact_of (tree_of r) path) (Some v)))
IsRefusedAnswer r (entry Override path text) = ⊥

-- the saved text of answers that fit an accepted dictionary is a carried text
abbrev pub SavedTextsAreCarried : Type 0
SavedTextsAreCarried = (names : List (List ℕ)) (d : Accepted) → IsAccepted names d → AreLists d.tree.enums → (a : Answered) → AnswersFit d.tree a → IsCarriedText (saved d.tree a)

-- where it is carried to its own dictionary, only such answers are dropped
abbrev pub OwnLinesAreKept : Type 0
OwnLinesAreKept =
    (r : Rules) → IsAccepted (names_of r.checks) r.accepted → AreLists (tree_of r).enums → (a : Answered) → AnswersFit (tree_of r) a
    → (c : CarriedText) × IsCarried c × (saved (tree_of r) a ≡ carried c) × ((line : CarriedLine) → Contains c.lines line → keeps r line ≡ false → IsRefusedAnswer r line)
