-- Answers with given lists of members, of which nothing is answered.
use Rattle.std.specs.Prelude.{◌≡◌, ◌<◌, ◌≤◌, ℕ, Bool, List, [], ◌∷◌, Some, None, nat_eq, if◌then◌else◌}
use Rattle.std.specs.List.{All, list_any}
use Rattle.std.specs.FinMap as map
use Rattle.fact_values.specs.Members.{IsMemberList}
use Rattle.answers.specs.Finite.{map_of}
use Rattle.answers.specs.Lists.{IsIn, IsNotIn}
use Rattle.answers.specs.Answered.{Answered, blank}
use Rattle.answers.specs.WellFormed.{WellFormed, FromOne}

-- the fact of a collection comes after this one
abbrev pub IsAfter : ℕ → ℕ × List ℕ → Type 0
IsAfter c e = c < e.0

-- the facts of the collections rise
abbrev pub FactsRise : List (ℕ × List ℕ) → Type 0
FactsRise [] = Unit {0}
FactsRise (e ∷ es) = All (IsAfter e.0) es × FactsRise es

-- none of these members stands in the list
abbrev pub IsWithout : List ℕ → ℕ × List ℕ → Type 0
IsWithout xs e = (m : ℕ) → IsIn m xs → IsNotIn m e.1

-- no member stands in two lists
abbrev pub AreApart : List (ℕ × List ℕ) → Type 0
AreApart [] = Unit {0}
AreApart (e ∷ es) = All (IsWithout e.1) es × AreApart es

-- each member is below a number
abbrev pub IsBelow : ℕ → ℕ × List ℕ → Type 0
IsBelow next e = (m : ℕ) → IsIn m e.1 → m < next

abbrev pub AreBelow : ℕ → List (ℕ × List ℕ) → Type 0
AreBelow next lists = All (IsBelow next) lists

-- each list has distinct members, 100 at most
abbrev pub AreMemberLists : List (ℕ × List ℕ) → Type 0
AreMemberLists lists = All (λ e. IsMemberList e.1) lists

-- whether a member stands in one of the lists
abbrev pub is_in_some : ℕ → List (ℕ × List ℕ) → Bool
is_in_some m lists = list_any (λ (e : ℕ × List ℕ). list_any (nat_eq m) e.1) lists

-- the open collections are these, each with its members, and nothing is answered or overridden
pub record IsOfLists (lists : List (ℕ × List ℕ)) (next : ℕ) (a : Answered) : Type 0 where
  pub number : a.next ≡ next
  pub lists_are : a.lists ≡ map_of (λ (xs : List ℕ). Some xs) lists
  pub no_globals : a.globals ≡ blank
  pub no_entries : (m : ℕ) → map.get a.members m ≡ (if is_in_some m lists then Some blank else None)

-- such answers are well formed
abbrev pub GivenIsWell : Type 0
GivenIsWell = (lists : List (ℕ × List ℕ)) (next : ℕ) (a : Answered) → FactsRise lists → AreApart lists → AreBelow next lists → AreMemberLists lists
    → 1 ≤ next → next ≤ 1000001 → IsOfLists lists next a → WellFormed a × FromOne a
