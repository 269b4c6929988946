-- Which lines of a carried text a saved text over a dictionary has, and in which order.
use Rattle.std.specs.Prelude.{◌≡◌, ◌<◌, ◌≤◌, ℕ, suc, ◌+◌, ◌-◌, ◌*◌, Bool, false, IsTrue, nat_eq, nat_lt, bytes_eq, List, [], ◌∷◌, length, slice_get, Option, Some, None, is_some, if◌then◌else◌, refl, codes}
use Rattle.std.specs.List.{AllByRecursion, find}
use Rattle.fact_paths.specs.declared.slot_path.SlotPath.{SlotPath}
use Rattle.fact_paths.specs.declared.slot_path.SlotPath.TheVariants.{Global, Member}
use Rattle.fact_values.specs.declared.value.Value.{Value}
use Rattle.value_text.specs.Values.{printed}
use Rattle.dict_source.specs.Dictionary.{Dictionary as Tree}
use Rattle.answers.specs.declared.edit.Side.{Side}
use Rattle.answers.specs.declared.edit.Side.TheVariants.{Answer, Override}
use Rattle.graph_session.specs.Naming.{fact_of}
use Rattle.saved_text.specs.CarriedText.{CarriedLine, Pairs, collection, entry, members_in}
use Rattle.save_file.specs.Carrying.{kept_collection}
use Rattle.save_file.specs.Keeping.{taken_value}

-- ---- one line

-- the text is that of the value
abbrev pub is_printed_of : Tree → List ℕ → Option Value → Bool
is_printed_of d text None = false
is_printed_of d text (Some v) = bytes_eq (printed d.enums v) text

-- it says the members of a Writable collection, or a value of a slot that may have it, as a saved text does
abbrev pub is_own : Tree → CarriedLine → Bool
is_own d (collection name members) = is_some (kept_collection d name)
is_own d (entry side path text) = is_printed_of d text (taken_value d side (fact_of d path) text)

-- ---- its place among others

-- how many come before the member; all, where it isn't there
abbrev pub place_in : ℕ → List ℕ → ℕ
place_in m [] = 0
place_in m (k ∷ ks) = if nat_eq m k then 0 else suc (place_in m ks)

-- the line is a list of this name
abbrev pub is_list_named : List ℕ → CarriedLine → Bool
is_list_named name (collection other members) = bytes_eq other name
is_list_named name (entry side path text) = false

-- the members of the first such line
abbrev pub members_by : Option CarriedLine → List ℕ
members_by None = []
members_by (Some line) = members_in line

abbrev pub members_named : List ℕ → List CarriedLine → List ℕ
members_named name lines = members_by (find (is_list_named name) lines)

abbrev pub member_place : List CarriedLine → SlotPath → ℕ
member_place lines (Global n) = 0
member_place lines (Member c k n) = place_in k (members_named c lines)

-- the numbers of facts are counted on from here
abbrev pub counted_from : Tree → Side → ℕ
counted_from d Answer = suc (length d.facts)
counted_from d Override = suc (length d.facts) + suc (length d.facts)

-- A number that rises from line to line of a saved text: lists, then answers, then overrides, each by their facts, and the lines of
-- a fact by their members, of which a list has at most 100.
abbrev pub position : Tree → List CarriedLine → CarriedLine → ℕ
position d lines (collection name members) = suc (101 * fact_of d (Global name))
position d lines (entry side path text) = suc (101 * (counted_from d side + fact_of d path) + member_place lines path)

-- ---- all lines

abbrev pub Rise : Tree → List CarriedLine → List CarriedLine → Type 0
Rise d all lines = Pairs (λ line later. position d all line < position d all later) lines

pub record AreOwn (d : Tree) (lines : List CarriedLine) : Type 0 where
  pub own : AllByRecursion (λ line. IsTrue (is_own d line)) lines
  pub rise : Rise d lines lines

-- the number is the highest of their positions, and 0 where there are none
pub record IsHighest (d : Tree) (lines : List CarriedLine) (last : ℕ) : Type 0 where
  pub high : AllByRecursion (λ line. position d lines line ≤ last) lines
  pub least : (n : ℕ) → AllByRecursion (λ line. position d lines line < suc n) lines → last ≤ n

-- ---- the last line

-- the position of a line, where it is own and comes behind the one with the last position
abbrev pub position_behind : Tree → List CarriedLine → ℕ → CarriedLine → Option ℕ
position_behind d lines last line = if is_own d line then if nat_lt last (position d lines line) then Some (position d lines line) else None else None

-- so of the last of these lines; without any the position stays
abbrev pub position_of_last : Tree → List CarriedLine → ℕ → Option CarriedLine → Option ℕ
position_of_last d lines last None = Some last
position_of_last d lines last (Some line) = position_behind d lines last line

abbrev pub IsPositionOfLast : Tree → List CarriedLine → ℕ → Option ℕ → Type 0
IsPositionOfLast d lines last new = new ≡ position_of_last d lines last (slice_get lines (length lines - 1))

-- worked examples
place_in-second : place_in 7 (3 ∷ 7 ∷ 9 ∷ []) ≡ 1
place_in-second = refl

members_named-second : members_named (codes "c") (collection (codes "b") (1 ∷ []) ∷ collection (codes "c") (2 ∷ 3 ∷ []) ∷ []) ≡ 2 ∷ 3 ∷ []
members_named-second = refl
