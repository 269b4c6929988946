-- Lists of members.
use Rattle.std.specs.Prelude.{◌≡◌, ℕ, suc, List, [], ◌∷◌, length, take, ◌-◌, nat_eq, true, false, if◌then◌else◌}
use Rattle.std.specs.List.{list_any}

-- the member stands in the list, or doesn't
abbrev pub IsIn : ℕ → List ℕ → Type 0
IsIn m xs = list_any (nat_eq m) xs ≡ true

abbrev pub IsNotIn : ℕ → List ℕ → Type 0
IsNotIn m xs = list_any (nat_eq m) xs ≡ false

-- each number stands once
abbrev pub Once : List ℕ → Type 0
Once [] = Unit {0}
Once (x ∷ xs) = IsNotIn x xs × Once xs

-- the list without a member, and the member's place in it, from 0
abbrev pub without : ℕ → List ℕ → List ℕ
without m [] = []
without m (x ∷ xs) = if nat_eq m x then xs else x ∷ without m xs

abbrev pub place_of : ℕ → List ℕ → ℕ
place_of m [] = 0
place_of m (x ∷ xs) = if nat_eq m x then 0 else suc (place_of m xs)

abbrev pub without_last : List ℕ → List ℕ
without_last xs = take (length xs - 1) xs
