-- A walk from a fact along mentions: which facts were seen, and which are still to be looked at.
-- A list of marks has a place for each number from 0 on; no fact stands at place 0.
use Rattle.std.specs.Prelude.{◌≡◌, ℕ, ◌+◌, List, [], ◌∷◌, ◌++◌, Bool, true, false, not, count_by, if◌then◌else◌, slice_index_or, slice_set}

abbrev pub State : Type 0
State = List Bool × List ℕ

-- a fact that wasn't seen is marked, and is still to be looked at
abbrev pub see : ℕ → State → State
see fact s = if slice_index_or s.0 fact false then s else (slice_set s.0 fact true, s.1 ++ fact ∷ [])

abbrev pub see_all : List ℕ → State → State
see_all [] s = s
see_all (fact ∷ facts) s = see_all facts (see fact s)

abbrev pub IsSeen : List Bool → ℕ → Type 0
IsSeen seen fact = slice_index_or seen fact false ≡ true

abbrev pub unseen : List Bool → ℕ
unseen seen = count_by not seen
