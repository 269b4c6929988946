-- The lists of members that a value may hold.
use Rattle.std.specs.Prelude.{ℕ, Bool, true, IsTrue, not, ◌&&◌, ◌==◌, List, [], ◌∷◌, length, nat_le}
use Rattle.std.specs.List.{list_any, list_all}

-- members are numbered from 1 to 1,000,000
abbrev pub is_member : ℕ → Bool
is_member n = nat_le 1 n && nat_le n 1000000

-- no number stands in the list twice
abbrev pub are_distinct : List ℕ → Bool
are_distinct [] = true
are_distinct (n ∷ rest) = not (list_any (λ other. other == n) rest) && are_distinct rest

-- distinct members, at most 100
abbrev pub is_member_list : List ℕ → Bool
is_member_list list = nat_le (length list) 100 && (list_all is_member list && are_distinct list)

abbrev pub IsMemberList : List ℕ → Type 0
IsMemberList list = IsTrue (is_member_list list)
