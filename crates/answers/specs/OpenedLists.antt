-- Opening collections one after another, each with its members.
use Rattle.std.specs.Prelude.{◌≡◌, ℕ, List, [], ◌∷◌, Some, None}
use Rattle.std.specs.List.{All}
use Rattle.std.specs.FinMap as map
use Rattle.answers.specs.Finite.{Numbered, put_at}
use Rattle.answers.specs.Lists.{IsIn}
use Rattle.answers.specs.Answered.{Entry, Answered, blank}
use Rattle.answers.specs.WellFormed.{WellFormed, FromOne}
use Rattle.answers.specs.GivenLists.{FactsRise, AreApart, AreBelow}

-- each of the members stands, without entries
abbrev pub all_blank : List ℕ → Numbered Entry → Numbered Entry
all_blank [] ms = ms
all_blank (m ∷ rest) ms = all_blank rest (put_at ms m (Some blank))

abbrev pub with_list : ℕ × List ℕ → Answered → Answered
with_list e a = record { next = a.next; lists = put_at a.lists e.0 (Some e.1); globals = a.globals; members = all_blank e.1 a.members }

abbrev pub with_all : List (ℕ × List ℕ) → Answered → Answered
with_all [] a = a
with_all (e ∷ es) a = with_all es (with_list e a)

-- the collection isn't open, and none of its members stands
abbrev pub IsFresh : Answered → ℕ × List ℕ → Type 0
IsFresh a e = (map.get a.lists e.0 ≡ None) × ((m : ℕ) → IsIn m e.1 → map.get a.members m ≡ None)

-- the lists may be opened, one after another
pub record MayOpen (lists : List (ℕ × List ℕ)) (a : Answered) : Type 0 where
  pub rise : FactsRise lists
  pub separate : AreApart lists
  pub below : AreBelow a.next lists
  pub fresh : All (IsFresh a) lists
  pub well : WellFormed a
  pub from_one : FromOne a
