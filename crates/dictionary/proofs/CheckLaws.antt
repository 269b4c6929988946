-- Lists of checks, and whether they are the same.
use Rattle.std.proofs.Common.{◌≡◌, ◌≢◌, ℕ, suc, Bool, true, false, List, [], ◌∷◌, length, inl, inr, refl, sym, ap, ◌∙◌}
use Rattle.std.specs.Prelude.{◌==◌, ◌⊎◌, ◌↔◌, IsTrue, bytes_eq}
use Rattle.std.proofs.lemmas.Bool.{and_from, and_parts, and_right, both_ways, eq-eqb, eqb-true}
use Rattle.std.proofs.lemmas.Slice.Eq.{bytes_eq-Decides}
use Rattle.dict_source.specs.Dictionary.{Dictionary as Tree}
use Rattle.dictionary.specs.AcceptedParts.{Named}
use Rattle.dictionary.specs.Checks.{has_check, same_checks, same_named}

pub other_length : (a b : List Named) → length a ≢ length b → same_checks a b ≡ false
other_length [] [] h = absurd (h refl)
other_length [] (y ∷ b) h = refl
other_length (x ∷ a) [] h = refl
other_length (x ∷ a) (y ∷ b) h = and_right (same_named x y) (same_checks a b) (other_length a b (λ e. h (ap suc e)))

abbrev named : List ℕ → ℕ → Named
named name code = (name, code)

named_is : (x y : Named) → same_named x y ≡ true → x ≡ y
named_is x y h =
    let parts = and_parts (bytes_eq x.0 y.0) (x.1 == y.1) h in
    ap (λ (n : List ℕ). named n x.1) ((bytes_eq-Decides x.0 y.0).0 parts.0) ∙ ap (named y.0) (eqb-true x.1 y.1 parts.1)

named_itself : (x : Named) → same_named x x ≡ true
named_itself x = and_from (bytes_eq x.0 x.0) (x.1 == x.1) ((bytes_eq-Decides x.0 x.0).1 refl) (eq-eqb x.1 x.1 refl)

checks_are : (a b : List Named) → same_checks a b ≡ true → a ≡ b
checks_are [] [] h = refl
checks_are [] (y ∷ b) h = absurd cc
checks_are (x ∷ a) [] h = absurd cc
checks_are (x ∷ a) (y ∷ b) h =
    let parts = and_parts (same_named x y) (same_checks a b) h in
    let one : x ≡ y = named_is x y parts.0 in
    let rest : a ≡ b = checks_are a b parts.1 in
    cc

checks_itself : (a : List Named) → same_checks a a ≡ true
checks_itself [] = refl
checks_itself (x ∷ a) = and_from (same_named x x) (same_checks a a) (named_itself x) (checks_itself a)

-- where some fact has a check, the test tells whether the lists are the same
pub tells_same : (a b : List Named) (d : Tree) (r checked : Bool) → r ≡ same_checks a b → checked ≡ has_check d → checked ≡ true → IsTrue r ↔ ((a ≡ b) ⊎ (has_check d ≡ false))
tells_same a b d r checked is of_d some = (
  λ h. inl (checks_are a b (sym is ∙ h)),
  λ h. elim h [
    | inl same ↦ is ∙ ap (same_checks a) (sym same) ∙ checks_itself a
    | inr none ↦ absurd (both_ways checked (of_d ∙ none) some)
  ],
)
