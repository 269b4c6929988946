-- The place of a name is the first that has it.
use Rattle.std.proofs.Common.{◌≡◌, inl, inr, ℕ, ◌<◌, List, [], Some, None, cond, length, ltb, slice_get, sym, ap, ◌∙◌, arith}
use Rattle.std.specs.List.{position_or_len}
use Rattle.std.specs.Str.{bytes_eq}
use Rattle.std.proofs.lemmas.Bool.{cases_lt, lt-ltb, ltb-true}
use Rattle.std.proofs.lemmas.Iterator.Adapters.{position_from-zero}
use Rattle.std.proofs.lemmas.List.Sums.{fails_before_first, passes_at_first}
use Rattle.std.proofs.lemmas.Option.{get_or_from_slice_get, slice_get-get_or, slice_get_within}
use Rattle.common_lemmas.proofs.Bools.{chosen}
use Rattle.common_lemmas.proofs.Bytes.{equal_bytes, same_bytes}
use Rattle.text_checks.specs.Places.{place_of}

-- the first place of the name, or the length of the list
abbrev first : List (List ℕ) → List ℕ → ℕ
first names name = position_or_len (λ n. bytes_eq n name) names

at_first : (names : List (List ℕ)) (name : List ℕ) (place : ℕ) → place_of names (λ n. n) name ≡ Some place → (first names name < length names) × (first names name ≡ place)
at_first names name place h =
    let there = chosen (ltb (first names name) (length names)) (first names name) place (position_from-zero (λ n. bytes_eq n name) names ∙ h) in
    (ltb-true (first names name) (length names) there.0, there.1)

before_first : (names : List (List ℕ)) (name : List ℕ) (place : ℕ) → place < first names name → slice_get names place ≡ Some name → ⊥
before_first names name place below at =
    let other = fails_before_first (λ n. bytes_eq n name) names place name below in
    let same = get_or_from_slice_get names place name name at in
    let equal = equal_bytes name in
    cc

pub place-name : (names : List (List ℕ)) (name : List ℕ) (place : ℕ) → place_of names (λ n. n) name ≡ Some place → slice_get names place ≡ Some name
place-name names name place h =
    let there = at_first names name place h in
    rw (sym there.1) (slice_get-get_or names (first names name) [] there.0 ∙ ap Some (same_bytes _ _ (passes_at_first (λ n. bytes_eq n name) names [] there.0)))

pub place-first : (names : List (List ℕ)) (name : List ℕ) (place before : ℕ) → place_of names (λ n. n) name ≡ Some place → before < place → slice_get names before ≡ Some name → ⊥
place-first names name place before h below = before_first names name before (rw (at_first names name place h).1 below)

pub no_place-no_name : (names : List (List ℕ)) (name : List ℕ) (place : ℕ) → place_of names (λ n. n) name ≡ None → slice_get names place ≡ Some name → ⊥
no_place-no_name names name place h at =
    let none : cond (ltb (first names name) (length names)) (Some (first names name)) None ≡ None = position_from-zero (λ n. bytes_eq n name) names ∙ h in
    elim (cases_lt (first names name) (length names)) [
      | inl there ↦ let test = lt-ltb (first names name) (length names) there in cc
      | inr past ↦ before_first names name place (omega (arith, past, slice_get_within names place name at)) at
    ]
