-- Taking a member out of a list, and putting it back.
use Rattle.std.proofs.Common.{◌≡◌, ℕ, zero, suc, Bool, true, false, List, [], ◌∷◌, ◌++◌, length, refl, ap, arith, ◌<◌, ◌≤◌, ◌-◌, ◌||◌, length-append}
use Rattle.std.specs.Prelude.{nat_eq, insert, remove, if◌then◌else◌}
use Rattle.std.specs.List.{list_any}
use Rattle.std.proofs.lemmas.Grind.{common_steps}
use Rattle.common_lemmas.proofs.Numbers.{same_number, equal_number}
use Rattle.answers.specs.Lists.{without, place_of, without_last}

put_head : (m x : ℕ) (xs : List ℕ) (b : Bool) → nat_eq m x ≡ b → (b || list_any (nat_eq m) xs) ≡ true → (list_any (nat_eq m) xs ≡ true → insert (without m xs) (place_of m xs) m ≡ xs) →
    insert (if b then xs else x ∷ without m xs) (if b then 0 else suc (place_of m xs)) m ≡ x ∷ xs
put_head m x xs true e h rest = ap (λ y. y ∷ xs) (same_number m x e)
put_head m x xs false e h rest = ap (λ ys. x ∷ ys) (rest h)

pub put_in_place : (m : ℕ) (xs : List ℕ) → list_any (nat_eq m) xs ≡ true → insert (without m xs) (place_of m xs) m ≡ xs
put_in_place m [] h = absurd cc
put_in_place m (x ∷ xs) h = put_head m x xs (nat_eq m x) refl h (put_in_place m xs)

out_head : (m x : ℕ) (xs ys : List ℕ) (b : Bool) → (b || list_any (nat_eq m) xs) ≡ false → (list_any (nat_eq m) xs ≡ false → without m ys ≡ xs) → (if b then ys else x ∷ without m ys) ≡ x ∷ xs
out_head m x xs ys true h rest = absurd cc
out_head m x xs ys false h rest = ap (λ zs. x ∷ zs) (rest h)

pub taken_out : (m i : ℕ) (xs : List ℕ) → i ≤ length xs → list_any (nat_eq m) xs ≡ false → without m (insert xs i m) ≡ xs
taken_out m zero xs le h = ap (λ b. if b then xs else m ∷ without m xs) (equal_number m)
taken_out m (suc i) [] le h = absurd (omega arith)
taken_out m (suc i) (x ∷ xs) le h = out_head m x xs (insert xs i m) (nat_eq m x) h (taken_out m i xs (omega arith))

pub last_off : (xs : List ℕ) (x : ℕ) → without_last (xs ++ x ∷ []) ≡ xs
last_off xs x = let n : length (xs ++ x ∷ []) - 1 ≡ length xs = omega (arith, length-append xs (x ∷ [])) in rw n (grind (arith, common_steps))

remove_head : (m x : ℕ) (xs : List ℕ) (b : Bool) → (b || list_any (nat_eq m) xs) ≡ true → (list_any (nat_eq m) xs ≡ true → remove xs (place_of m xs) ≡ without m xs) →
    remove (x ∷ xs) (if b then 0 else suc (place_of m xs)) ≡ (if b then xs else x ∷ without m xs)
remove_head m x xs true h rest = refl
remove_head m x xs false h rest = ap (λ ys. x ∷ ys) (rest h)

pub remove_place : (m : ℕ) (xs : List ℕ) → list_any (nat_eq m) xs ≡ true → remove xs (place_of m xs) ≡ without m xs
remove_place m [] h = absurd cc
remove_place m (x ∷ xs) h = remove_head m x xs (nat_eq m x) h (remove_place m xs)

within_head : (m : ℕ) (xs : List ℕ) (b : Bool) → (b || list_any (nat_eq m) xs) ≡ true → (list_any (nat_eq m) xs ≡ true → place_of m xs < length xs) → (if b then 0 else suc (place_of m xs)) < suc (length xs)
within_head m xs true h rest = omega arith
within_head m xs false h rest = let r : place_of m xs < length xs = rest h in omega arith

pub place_within : (m : ℕ) (xs : List ℕ) → list_any (nat_eq m) xs ≡ true → place_of m xs < length xs
place_within m [] h = absurd cc
place_within m (x ∷ xs) h = within_head m xs (nat_eq m x) h (place_within m xs)
