-- Finite maps that are given as lists of pairs, for examples.
use Rattle.std.proofs.Common.{◌≡◌, ℕ, cond, List, [], ◌∷◌, Option, Some, None, ap, ◌∙◌}
use Rattle.std.specs.Prelude.{nat_eq}
use Rattle.std.specs.FinMap as map
use Rattle.std.specs.Ordering.{nat_cmp}
use Rattle.answers.specs.Finite.{Numbered, put_at}
use Rattle.answers.proofs.FiniteLaws.{get_put}

-- what stands at some numbers
pub map_at : {X : Type 0} → List (ℕ × X) → Numbered X
map_at [] = map.empty
map_at (x ∷ xs) = put_at (map_at xs) x.0 (Some x.1)

abbrev pub found_at : {X : Type 0} → List (ℕ × X) → ℕ → Option X
found_at [] k = None
found_at (x ∷ xs) k = cond (nat_eq x.0 k) (Some x.1) (found_at xs k)

pub get_at : {X : Type 0} (xs : List (ℕ × X)) (k : ℕ) → map.get (map_at xs) k ≡ found_at xs k
unfolding map_at
get_at [] k = map.get-empty nat_cmp k
get_at (x ∷ xs) k = get_put (map_at xs) x.0 (Some x.1) k ∙ ap (cond (nat_eq x.0 k) (Some x.1)) (get_at xs k)
