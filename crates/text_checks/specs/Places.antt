-- Where a name stands in a list.
use Rattle.std.specs.Prelude.{◌≡◌, ℕ, ◌<◌, List, Option, Some, None, slice_get}
use Rattle.std.specs.List.{position_from}
use Rattle.std.specs.Str.{bytes_eq}

-- the place of the first of this name, from 0
abbrev pub place_of : {C : Type 0} → List C → (C → List ℕ) → List ℕ → Option ℕ
place_of checks name_of name = position_from (λ c. bytes_eq (name_of c) name) 0 checks

-- ---- its laws, for a list of names

abbrev pub PlaceHasItsName : Type 0
PlaceHasItsName = (names : List (List ℕ)) (name : List ℕ) (place : ℕ) → place_of names (λ n. n) name ≡ Some place → slice_get names place ≡ Some name

-- no earlier place has it
abbrev pub PlaceIsFirst : Type 0
PlaceIsFirst = (names : List (List ℕ)) (name : List ℕ) (place before : ℕ) → place_of names (λ n. n) name ≡ Some place → before < place → slice_get names before ≡ Some name → ⊥

abbrev pub NoPlaceHasNoName : Type 0
NoPlaceHasNoName = (names : List (List ℕ)) (name : List ℕ) (place : ℕ) → place_of names (λ n. n) name ≡ None → slice_get names place ≡ Some name → ⊥
