-- Slots in lists.
use Rattle.std.proofs.Common.{◌≡◌, ◌+◌, ◌≤◌, Bool, true, false, ◌&&◌, ◌||◌, IsTrue, if◌then◌else◌, List, [], ◌∷◌, ◌++◌, filter, flat_map, length, refl, sym, ap, subst, ◌∙◌, arith}
use Rattle.std.specs.Prelude.{All}
use Rattle.std.specs.List.{list_all}
use Rattle.std.proofs.lemmas.List.Elements.{All-cons, All-head, All-nil, All-tail}
use Rattle.std.proofs.lemmas.List.Folds.{list_any-append}
use Rattle.fact_values.specs.declared.slot.Slot.{Slot}
use Rattle.common_lemmas.proofs.Bools.{and_intro, both, or_assoc, or_left, or_right}
use Rattle.dict_meaning.specs.Slots.{slot_same}
use Rattle.dict_meaning.proofs.SlotLaws.{slot_same-equal, slot_same-itself}
use Rattle.evaluation.specs.Mentioned.{AllOf}
use Rattle.explain.specs.Reads.{is_in, new_among}

-- ---- where a slot is in a list

pub in_append : (t : Slot) (xs ys : List Slot) → is_in t (xs ++ ys) ≡ (is_in t xs || is_in t ys)
in_append t xs ys = list_any-append (slot_same t) xs ys

pub is_head : (t : Slot) (ts : List Slot) → IsTrue (is_in t (t ∷ ts))
is_head t ts = or_left (slot_same t t) (is_in t ts) (slot_same-itself t)

-- what is in a list that passes a test is what is in it and passes
in_filter_by : (p : Slot → Bool) (t x : Slot) (xs : List Slot) (same passes : Bool) → slot_same t x ≡ same → p x ≡ passes → is_in t (filter p xs) ≡ (is_in t xs && p t)
    → is_in t (if passes then x ∷ filter p xs else filter p xs) ≡ ((same || is_in t xs) && p t)
in_filter_by p t x xs true true e f h = rw (e, ap p (slot_same-equal t x e), f) refl
in_filter_by p t x xs false true e f h = rw e h
in_filter_by p t x xs true false e f h = h ∙ rw (ap p (slot_same-equal t x e), f) (no (is_in t xs))
  where
    no : (b : Bool) → (b && false) ≡ false
    no true = refl
    no false = refl
in_filter_by p t x xs false false e f h = h

pub in_filter : (p : Slot → Bool) (t : Slot) (xs : List Slot) → is_in t (filter p xs) ≡ (is_in t xs && p t)
in_filter p t [] = refl
in_filter p t (x ∷ xs) = in_filter_by p t x xs (slot_same t x) (p x) refl refl (in_filter p t xs)

pub in_flat_map : (f : Slot → List Slot) (x t : Slot) (xs : List Slot) → IsTrue (is_in x xs) → IsTrue (is_in t (f x)) → IsTrue (is_in t (flat_map f xs))
in_flat_map f x t [] i h = absurd (cc)
in_flat_map f x t (y ∷ ys) i h = rw (in_append t (f y) (flat_map f ys)) (by (slot_same x y) refl i (λ j. in_flat_map f x t ys j h))
  where
    by : (same : Bool) → slot_same x y ≡ same → IsTrue (same || is_in x ys) → (IsTrue (is_in x ys) → IsTrue (is_in t (flat_map f ys))) → IsTrue (is_in t (f y) || is_in t (flat_map f ys))
    by true e i rest = or_left (is_in t (f y)) (is_in t (flat_map f ys)) (subst (λ (z : Slot). IsTrue (is_in t (f z))) (slot_same-equal x y e) h)
    by false e i rest = or_right (is_in t (f y)) (is_in t (flat_map f ys)) (rest i)

-- the one of a list by which it is there
pub of_flat_map : (f : Slot → List Slot) (t : Slot) (xs : List Slot) → IsTrue (is_in t (flat_map f xs)) → (x : Slot) × IsTrue (is_in x xs) × IsTrue (is_in t (f x))
of_flat_map f t [] i = absurd (cc)
of_flat_map f t (y ∷ ys) i = by (is_in t (f y)) refl (sym (in_append t (f y) (flat_map f ys)) ∙ i) (of_flat_map f t ys)
  where
    by : (here : Bool) → is_in t (f y) ≡ here → IsTrue (here || is_in t (flat_map f ys)) → (IsTrue (is_in t (flat_map f ys)) → (x : Slot) × IsTrue (is_in x ys) × IsTrue (is_in t (f x)))
        → (x : Slot) × IsTrue (is_in x (y ∷ ys)) × IsTrue (is_in t (f x))
    by true e i rest = (y, is_head y ys, e)
    by false e i rest = let found = rest i in (found.0, or_right (slot_same found.0 y) (is_in found.0 ys) found.1, found.2)

-- ---- what holds of all of a list

pub all_at : (P : Slot → Type 0) (ts : List Slot) → AllOf P ts → (t : Slot) → IsTrue (is_in t ts) → P t
all_at P [] h t i = absurd (cc)
all_at P (x ∷ xs) h t i = by (slot_same t x) refl i (all_at P xs h.1 t)
  where
    by : (same : Bool) → slot_same t x ≡ same → IsTrue (same || is_in t xs) → (IsTrue (is_in t xs) → P t) → P t
    by true e i rest = subst P (sym (slot_same-equal t x e)) h.0
    by false e i rest = rest i

pub all_where : (P : Slot → Type 0) (ts : List Slot) → ((t : Slot) → IsTrue (is_in t ts) → P t) → AllOf P ts
all_where P [] h = tt
all_where P (x ∷ xs) h = (h x (is_head x xs), all_where P xs (λ t i. h t (or_right (slot_same t x) (is_in t xs) i)))

pub test_all : (test : Slot → Bool) (ts : List Slot) → AllOf (λ t. IsTrue (test t)) ts → IsTrue (list_all test ts)
test_all test [] h = refl
test_all test (x ∷ xs) h = and_intro (test x) (list_all test xs) h.0 (test_all test xs h.1)

pub test_at : (test : Slot → Bool) (ts : List Slot) → IsTrue (list_all test ts) → (t : Slot) → IsTrue (is_in t ts) → IsTrue (test t)
test_at test ts h t i = all_at (λ u. IsTrue (test u)) ts (passes ts h) t i
  where
    passes : (ts : List Slot) → IsTrue (list_all test ts) → AllOf (λ u. IsTrue (test u)) ts
    passes [] h = tt
    passes (x ∷ xs) h = let parts = both (test x) (list_all test xs) h in (parts.0, passes xs parts.1)

-- ---- how many pass a test

-- where no more pass than before, there are no more
no_more_by : {X : Type 0} (b c : Bool) (x : X) (xs ys : List X) → (IsTrue b → IsTrue c) → length xs ≤ length ys → length (if b then x ∷ xs else xs) ≤ length (if c then x ∷ ys else ys)
no_more_by true true x xs ys h l = omega arith
no_more_by true false x xs ys h l = absurd (let no : false ≡ true = h refl in cc)
no_more_by false true x xs ys h l = omega arith
no_more_by false false x xs ys h l = l

pub no_more : (p q : Slot → Bool) → ((s : Slot) → IsTrue (p s) → IsTrue (q s)) → (xs : List Slot) → length (filter p xs) ≤ length (filter q xs)
no_more p q h [] = omega arith
no_more p q h (x ∷ xs) = no_more_by (p x) (q x) x (filter p xs) (filter q xs) (h x) (no_more p q h xs)

-- one fewer, where one that passed doesn't any more
pub one_fewer : (p q : Slot → Bool) → ((s : Slot) → IsTrue (p s) → IsTrue (q s)) → (t : Slot) → p t ≡ false → q t ≡ true → (xs : List Slot) → IsTrue (is_in t xs) → length (filter p xs) + 1 ≤ length (filter q xs)
one_fewer p q h t out was [] i = absurd (cc)
one_fewer p q h t out was (x ∷ xs) i = by (slot_same t x) refl i (one_fewer p q h t out was xs)
  where
    here : t ≡ x → length (filter p (x ∷ xs)) + 1 ≤ length (filter q (x ∷ xs))
    here e = rw (← e, out, was) (let l = no_more p q h xs in omega arith)

    more : (b c : Bool) (xs' ys' : List Slot) → (IsTrue b → IsTrue c) → length xs' + 1 ≤ length ys' → length (if b then x ∷ xs' else xs') + 1 ≤ length (if c then x ∷ ys' else ys')
    more true true xs' ys' k l = omega arith
    more true false xs' ys' k l = absurd (let no : false ≡ true = k refl in cc)
    more false true xs' ys' k l = omega arith
    more false false xs' ys' k l = l

    by : (same : Bool) → slot_same t x ≡ same → IsTrue (same || is_in t xs) → (IsTrue (is_in t xs) → length (filter p xs) + 1 ≤ length (filter q xs)) → length (filter p (x ∷ xs)) + 1 ≤ length (filter q (x ∷ xs))
    by true e i rest = here (slot_same-equal t x e)
    by false e i rest = more (p x) (q x) (filter p xs) (filter q xs) (h x) (rest i)

-- ---- those of a list that aren't known

-- of two lists, where those of the first are known behind it
pub new_among-append : (known : Slot → Bool) (xs ys : List Slot) → new_among known (xs ++ ys) ≡ new_among known xs ++ new_among (λ t. known t || is_in t xs) ys
new_among-append known [] ys = ap (λ (p : Slot → Bool). new_among p ys) (λ i t. or_false_back (known t) i)
  where
    or_false_back : (b : Bool) → b ≡ (b || false)
    or_false_back true = refl
    or_false_back false = refl
new_among-append known (x ∷ xs) ys = by (known x) refl (new_among-append known xs ys) (new_among-append (λ t. known t || slot_same t x) xs ys)
  where
    -- one that is known is no news, nor where it stands again
    again : (t : Slot) (same : Bool) → slot_same t x ≡ same → known x ≡ true → (known t || is_in t xs) ≡ (known t || (same || is_in t xs))
    again t true e old = rw (ap known (slot_same-equal t x e) ∙ old) refl
    again t false e old = refl

    by : (old : Bool) → known x ≡ old
        → new_among known (xs ++ ys) ≡ new_among known xs ++ new_among (λ t. known t || is_in t xs) ys
        → new_among (λ t. known t || slot_same t x) (xs ++ ys) ≡ new_among (λ t. known t || slot_same t x) xs ++ new_among (λ t. (known t || slot_same t x) || is_in t xs) ys
        → (if old then new_among known (xs ++ ys) else x ∷ new_among (λ t. known t || slot_same t x) (xs ++ ys)) ≡ (if old then new_among known xs else x ∷ new_among (λ t. known t || slot_same t x) xs) ++ new_among (λ t. known t || is_in t (x ∷ xs)) ys
    by true e there here = there ∙ ap (λ (p : Slot → Bool). new_among known xs ++ new_among p ys) (λ i t. again t (slot_same t x) refl e i)
    by false e there here =
        ap (λ (ts : List Slot). x ∷ ts) (
        here ∙ ap (λ (p : Slot → Bool). new_among (λ t. known t || slot_same t x) xs ++ new_among p ys) (λ i t. or_assoc (known t) (slot_same t x) (is_in t xs) i)
        )

-- what holds of all of a list holds of those that aren't known
pub all_new : (P : Slot → Type 0) (known : Slot → Bool) (xs : List Slot) → All P xs → All P (new_among known xs)
all_new P known [] h = All-nil P
all_new P known (x ∷ xs) h = by (known x) (all_new P known xs (All-tail P x xs h)) (all_new P (λ t. known t || slot_same t x) xs (All-tail P x xs h))
  where
    by : (old : Bool) → All P (new_among known xs) → All P (new_among (λ t. known t || slot_same t x) xs) → All P (if old then new_among known xs else x ∷ new_among (λ t. known t || slot_same t x) xs)
    by true there here = there
    by false there here = All-cons P x (new_among (λ t. known t || slot_same t x) xs) (All-head P x xs h) here

-- and all that pass a test do
pub all_pass : (p : Slot → Bool) (xs : List Slot) → All (λ t. IsTrue (p t)) (filter p xs)
all_pass p [] = All-nil (λ t. IsTrue (p t))
all_pass p (x ∷ xs) = by (p x) refl (all_pass p xs)
  where
    by : (passes : Bool) → p x ≡ passes → All (λ t. IsTrue (p t)) (filter p xs) → All (λ t. IsTrue (p t)) (if passes then x ∷ filter p xs else filter p xs)
    by true e rest = All-cons (λ t. IsTrue (p t)) x (filter p xs) e rest
    by false e rest = rest
