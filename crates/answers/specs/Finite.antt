-- Finite maps from numbers.
use Rattle.std.specs.Prelude.{ℕ, List, [], ◌∷◌, Option, Some, None}
use Rattle.std.specs.Ordering.{nat_cmp}
use Rattle.std.specs.FinMap as map

abbrev pub Numbered : Type 0 → Type 0
Numbered X = map.FinMap nat_cmp X

-- m with this at the key k, or with nothing there
abbrev pub put_at : {X : Type 0} → Numbered X → ℕ → Option X → Numbered X
put_at m k None = map.remove m k
put_at m k (Some x) = map.insert m k x

-- the map that has at each key what f finds in the first pair with that key
abbrev pub map_of : {A X : Type 0} → (A → Option X) → List (ℕ × A) → Numbered X
map_of f [] = map.empty
map_of f (e ∷ es) = put_at (map_of f es) e.0 (f e.1)

abbrev pub and_then : {A X : Type 0} → (A → Option X) → Option A → Option X
and_then f None = None
and_then f (Some a) = f a
