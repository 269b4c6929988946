-- What a list has, and the least number above all of a list.
use Rattle.std.proofs.Common.{◌≡◌, ℕ, zero, suc, ◌<◌, ◌≤◌, min, Bool, true, false, List, [], ◌∷◌, ◌++◌, length, map, get_or, drop, ◌⊎◌, inl, inr, refl, sym, ap, arith, drop-cons}
use Rattle.std.proofs.lemmas.Bool.{cases_lt}
use Rattle.dict_order.specs.Graph.{Has}
use Rattle.dict_order.specs.Ranks.{above}

pub true_or_false : (b : Bool) → (b ≡ true) ⊎ (b ≡ false)
true_or_false true = inl refl
true_or_false false = inr refl

pub at_most_or_above : (a b : ℕ) → (a ≤ b) ⊎ (b < a)
at_most_or_above a b = elim (cases_lt b a) [ inl h ↦ inr h | inr h ↦ inl h ]

-- ---- what a list has

pub has_front : (l : List ℕ) (i : ℕ) → i < length l → Has (drop i l) (get_or l i 0)
has_front l i h = rw (drop-cons l i 0) (inl refl)

pub has_rest : (l : List ℕ) (i k : ℕ) → i < length l → Has (drop (suc i) l) k → Has (drop i l) k
has_rest l i k h p = rw (drop-cons l i 0) (inr p)

pub has_append : (xs ys : List ℕ) (k : ℕ) → Has xs k → Has (xs ++ ys) k
has_append [] ys k h = absurd h
has_append (x ∷ xs) ys k (inl e) = inl e
has_append (x ∷ xs) ys k (inr h) = inr (has_append xs ys k h)

pub has_last : (xs : List ℕ) (k : ℕ) → Has (xs ++ k ∷ []) k
has_last [] k = inl refl
has_last (x ∷ xs) k = inr (has_last xs k)

pub has_cases : (xs : List ℕ) (y k : ℕ) → Has (xs ++ y ∷ []) k → Has xs k ⊎ (k ≡ y)
has_cases [] y k (inl e) = inr e
has_cases [] y k (inr h) = absurd h
has_cases (x ∷ xs) y k (inl e) = inl (inl e)
has_cases (x ∷ xs) y k (inr h) = elim (has_cases xs y k h) [ inl p ↦ inl (inr p) | inr q ↦ inr q ]

pub has_at : (l : List ℕ) (i : ℕ) → i < length l → Has l (get_or l i 0)
has_at [] i h = absurd (omega arith)
has_at (x ∷ l) zero h = inl refl
has_at (x ∷ l) (suc i) h = inr (has_at l i (omega arith))

pub has_place : (l : List ℕ) (x : ℕ) → Has l x → (i : ℕ) × (i < length l) × (get_or l i 0 ≡ x)
has_place [] x h = absurd h
has_place (y ∷ l) x (inl e) = (0, omega arith, sym e)
has_place (y ∷ l) x (inr h) = let p = has_place l x h in (suc p.0, omega (arith, p.1), p.2)

pub has_map : (f : ℕ → ℕ) (xs : List ℕ) (x : ℕ) → Has xs x → Has (map f xs) (f x)
has_map f [] x h = absurd h
has_map f (y ∷ xs) x (inl e) = inl (ap f e)
has_map f (y ∷ xs) x (inr h) = inr (has_map f xs x h)

pub map_has : (f : ℕ → ℕ) (xs : List ℕ) (y : ℕ) → Has (map f xs) y → (x : ℕ) × Has xs x × (y ≡ f x)
map_has f [] y h = absurd h
map_has f (x ∷ xs) y (inl e) = (x, inl refl, e)
map_has f (x ∷ xs) y (inr h) = let p = map_has f xs y h in (p.0, inr p.1, p.2)

pub map_same : (f g : ℕ → ℕ) (xs : List ℕ) → ((x : ℕ) → Has xs x → f x ≡ g x) → map f xs ≡ map g xs
map_same f g [] h = refl
map_same f g (x ∷ xs) h = let e = h x (inl refl) in let r = map_same f g xs (λ k p. h k (inr p)) in cc

-- ---- the least number above all

pub above_has : (xs : List ℕ) (x : ℕ) → Has xs x → x < above xs
above_has [] x h = absurd h
above_has (y ∷ xs) x (inl e) = omega arith
above_has (y ∷ xs) x (inr h) = let l = above_has xs x h in omega (arith, l)

pub above_greatest : (xs : List ℕ) → 0 < above xs → (x : ℕ) × Has xs x × (above xs ≡ suc x)
above_greatest [] h = absurd (omega arith)
above_greatest (y ∷ xs) h = elim (at_most_or_above (above xs) (suc y)) [
  | inl l ↦ (y, inl refl, omega arith)
  | inr l ↦ let p = above_greatest xs (omega arith) in let e = p.2 in (p.0, inr p.1, omega (arith, l, e))
]

pub above_min : (j : ℕ) (h : ℕ → ℕ) (xs : List ℕ) → above (map (λ x. min j (h x)) xs) ≡ min (suc j) (above (map h xs))
above_min j h [] = omega arith
above_min j h (x ∷ xs) = omega (arith, above_min j h xs)
