-- Places in a list of names.
use Rattle.std.proofs.Common.{◌≡◌, ℕ, ◌+◌, Bool, List, [], ◌∷◌, map, refl, sym}
use Rattle.std.specs.List.{position_from}
use Rattle.std.specs.Str.{bytes_eq}
use Rattle.text_checks.specs.Places.{place_of}

position_from-map : {X Y : Type 0} (f : X → Y) (test : Y → Bool) (xs : List X) (i : ℕ) → position_from test i (map f xs) ≡ position_from (λ x. test (f x)) i xs
position_from-map f test [] i = refl
position_from-map f test (x ∷ xs) i = rw (position_from-map f test xs (i + 1)) refl

-- a place is the same among the names alone
pub place_of-names : {X : Type 0} (name_of : X → List ℕ) (xs : List X) (name : List ℕ) → place_of xs name_of name ≡ place_of (map name_of xs) (λ n. n) name
place_of-names name_of xs name = sym (position_from-map name_of (λ n. bytes_eq n name) xs 0)
