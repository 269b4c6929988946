-- Elements of lists by their place, and tests of them.
use Rattle.std.proofs.Common.{◌≡◌, ℕ, zero, suc, ◌≤◌, ◌<◌, Bool, true, false, IsTrue, List, [], ◌∷◌, ◌++◌, Some, filter, length, refl, sym, ap, ◌∙◌, subst, append_assoc, arith}
use Rattle.std.specs.Prelude.{nat_eq, ◌==◌, ◌||◌, if◌then◌else◌}
use Rattle.std.specs.List.{All, list_all, list_any, slice_get}
use Rattle.std.proofs.lemmas.List.Elements.{All-head, All-tail}
use Rattle.std.proofs.lemmas.List.Folds.{list_all-append}
use Rattle.common_lemmas.proofs.Bools.{both}
use Rattle.common_lemmas.proofs.Numbers.{nat_eq-comm}

-- what holds of all holds of the one at a place
pub all_at : {X : Type 0} (P : X → Type 0) (xs : List X) (i : ℕ) (x : X) → All P xs → slice_get xs i ≡ Some x → P x
all_at P [] i x all e = absurd cc
all_at P (y ∷ ys) zero x all e = let same : y ≡ x = cc in subst P same (All-head P y ys all)
all_at P (y ∷ ys) (suc i) x all e = all_at P ys i x (All-tail P y ys all) e

-- a place within a list has an element
pub one_at : {X : Type 0} (xs : List X) (i : ℕ) → suc i ≤ length xs → (x : X) × (slice_get xs i ≡ Some x)
one_at [] i h = absurd (omega arith)
one_at (x ∷ xs) zero h = (x, refl)
one_at (x ∷ xs) (suc i) h = one_at xs i (omega arith)

-- those before the last stay where they are
pub get_left : {X : Type 0} (xs ys : List X) (i : ℕ) → i < length xs → slice_get (xs ++ ys) i ≡ slice_get xs i
get_left [] ys i low = absurd (omega (arith, low))
get_left (x ∷ xs) ys zero low = refl
get_left (x ∷ xs) ys (suc i) low = get_left xs ys i (omega (arith, low))

pub get_last : {X : Type 0} (xs : List X) (x : X) → slice_get (xs ++ x ∷ []) (length xs) ≡ Some x
get_last [] x = refl
get_last (y ∷ xs) x = get_last xs x

pub any_number : (n : ℕ) (xs : List ℕ) → list_any (λ other. other == n) xs ≡ list_any (nat_eq n) xs
any_number n [] = refl
any_number n (x ∷ xs) = ap (λ b. b || list_any (λ other. other == n) xs) (nat_eq-comm x n) ∙ ap (λ b. nat_eq n x || b) (any_number n xs)

-- one more, where a test holds
pub kept_one : {X : Type 0} (b : Bool) (xs : List X) (x : X) (ys : List X) → (if b then xs ++ x ∷ [] else xs) ++ ys ≡ xs ++ (if b then x ∷ ys else ys)
kept_one true xs x ys = append_assoc xs (x ∷ []) ys
kept_one false xs x ys = refl

-- ---- tests of all elements

pub all_parts : {X : Type 0} (test : X → Bool) (xs ys : List X) → IsTrue (list_all test (xs ++ ys)) → IsTrue (list_all test xs) × IsTrue (list_all test ys)
all_parts test xs ys h = both (list_all test xs) (list_all test ys) (sym (list_all-append test xs ys) ∙ h)

-- two tests that say the same of each element leave the same
pub same_filter : {X : Type 0} (p q : X → Bool) → ((x : X) → p x ≡ q x) → (xs : List X) → filter p xs ≡ filter q xs
same_filter p q h [] = refl
same_filter p q h (x ∷ xs) = rw (h x, same_filter p q h xs) refl
