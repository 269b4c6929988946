-- Lists of lines: what each of a row of keys has, which lines are there, and lists that rise.
use Rattle.saved_text.proofs.Common.{All-head, All-tail, AllByRecursion, BeginsOther, Bool, Contains, Contains-append_cases, Contains-append_left, Contains-append_right, Contains-push, Contains-push_cases, List, None, Option, Pairs, Some, [], after, after-append, ap, arith, cond, count_by, counted, false, find, flat_map, get_or, inl, inr, length, list_any, lookup, map, nat_eq, nat_tests, none-some, or_left, or_right, refl, same_Some, same_number, slice_get, subst, suc, sym, true, zero, ℕ, ◌++◌, ◌+◌, ◌<◌, ◌∙◌, ◌∷◌, ◌≡◌, ◌≤◌, ◌⊎◌}
use Rattle.std.proofs.lemmas.List.Sums.{sum_by-cons}
use Rattle.std.specs.List.{All}
use Rattle.saved_text.proofs.TextLaws.{all-append}

-- ==== parts of lists

-- the parts of lists that are one
pub cons_parts : {X : Type 0} (x y : X) (xs ys : List X) → x ∷ xs ≡ y ∷ ys → (x ≡ y) × (xs ≡ ys)
cons_parts x y xs ys e = (cc, cc)

pub cons_not_nil : {X : Type 0} (x : X) (xs : List X) → x ∷ xs ≡ [] → ⊥
cons_not_nil x xs e = cc

pub never_empty : {X : Type 0} (xs : List X) (y : X) → xs ++ y ∷ [] ≡ [] → ⊥
never_empty [] y e = cc
never_empty (x ∷ xs) y e = cc

-- the first byte of a line
abbrev pub first : List ℕ → ℕ
first line = get_or line 0 0

pub not_behind : (word line : List ℕ) → after word line ≡ None → BeginsOther word line
not_behind word line none text e = none-some text (sym none ∙ ap (after word) e ∙ after-append word text)

pub everywhere : {K : Type 0} (P : K → Type 0) → ((k : K) → P k) → (ks : List K) → AllByRecursion P ks
everywhere P all [] = tt
everywhere P all (k ∷ ks) = (all k, everywhere P all ks)

-- ==== what keys have, one after another, where each has one thing at most

abbrev pub onto : {X : Type 0} → Option X → List X → List X
onto None xs = xs
onto (Some x) xs = x ∷ xs

abbrev pub shown : {K X : Type 0} → (K → Option X) → List K → List X
shown o [] = []
shown o (k ∷ ks) = onto (o k) (shown o ks)

-- ---- what is true of each

pub all_shown : {K X : Type 0} (o : K → Option X) (Q : K → Type 0) (P : X → Type 0) → ((k : K) (x : X) → Q k → o k ≡ Some x → P x) → (ks : List K) → AllByRecursion Q ks → AllByRecursion P (shown o ks)
all_shown o Q P each [] all = tt
all_shown {X = X} o Q P each (k ∷ ks) all = at (o k) refl (all_shown o Q P each ks all.1)
  where
    at : (f : Option X) → o k ≡ f → AllByRecursion P (shown o ks) → AllByRecursion P (onto f (shown o ks))
    at None e rest = rest
    at (Some x) e rest = (each k x all.0 e, rest)

-- and of what each key has, where it is true of all
pub each_shown : {K X : Type 0} (o : K → Option X) (P : X → Type 0) (ks : List K) → AllByRecursion P (shown o ks) → AllByRecursion (λ (k : K). (x : X) → o k ≡ Some x → P x) ks
each_shown o P [] all = tt
each_shown {K = K} {X = X} o P (k ∷ ks) all = at (o k) refl all (each_shown o P ks)
  where
    at : (f : Option X) → o k ≡ f → AllByRecursion P (onto f (shown o ks)) → (AllByRecursion P (shown o ks) → AllByRecursion (λ (j : K). (x : X) → o j ≡ Some x → P x) ks)
        → ((x : X) → o k ≡ Some x → P x) × AllByRecursion (λ (j : K). (x : X) → o j ≡ Some x → P x) ks
    at None e all rest = (λ x g. absurd (none-some x (sym e ∙ g)), rest all)
    at (Some y) e all rest = (λ x g. subst P (same_Some y x (sym e ∙ g)) all.0, rest all.1)

-- of each two
pub pairs_shown : {K X : Type 0} (o : K → Option X) (D : K → K → Type 0) (R : X → X → Type 0) → ((k j : K) (x y : X) → D k j → o k ≡ Some x → o j ≡ Some y → R x y) → (ks : List K) → Pairs D ks → Pairs R (shown o ks)
pairs_shown o D R each [] pairs = tt
pairs_shown {X = X} o D R each (k ∷ ks) pairs = at (o k) refl (pairs_shown o D R each ks pairs.1)
  where
    at : (f : Option X) → o k ≡ f → Pairs R (shown o ks) → Pairs R (onto f (shown o ks))
    at None e rest = rest
    at (Some x) e rest = (all_shown o (D k) (R x) (λ j y d f. each k j x y d e f) ks pairs.0, rest)

pub pairs-append : {X : Type 0} (R : X → X → Type 0) (xs ys : List X) → Pairs R xs → Pairs R ys → AllByRecursion (λ x. AllByRecursion (R x) ys) xs → Pairs R (xs ++ ys)
pairs-append R [] ys left right across = right
pairs-append R (x ∷ xs) ys left right across = (all-append (R x) xs ys left.0 across.0, pairs-append R xs ys left.1 right across.1)

pub across : {X : Type 0} (R : X → X → Type 0) (P Q : X → Type 0) → ((x y : X) → P x → Q y → R x y) → (xs ys : List X) → AllByRecursion P xs → AllByRecursion Q ys → AllByRecursion (λ x. AllByRecursion (R x) ys) xs
across R P Q each [] ys left right = tt
across {X = X} R P Q each (x ∷ xs) ys left right = (of_one ys right, across R P Q each xs ys left.1 right)
  where
    of_one : (ys : List X) → AllByRecursion Q ys → AllByRecursion (R x) ys
    of_one [] all = tt
    of_one (y ∷ ys) all = (each x y left.0 all.0, of_one ys all.1)

-- of each, and of each two, where more is known of them
pub all_where : {X : Type 0} (Q P S : X → Type 0) → ((x : X) → Q x → P x → S x) → (xs : List X) → AllByRecursion Q xs → AllByRecursion P xs → AllByRecursion S xs
all_where Q P S each [] known all = tt
all_where Q P S each (x ∷ xs) known all = (each x known.0 all.0, all_where Q P S each xs known.1 all.1)

pub pairs_where : {X : Type 0} (Q : X → Type 0) (R S : X → X → Type 0) → ((x y : X) → Q x → Q y → R x y → S x y) → (xs : List X) → AllByRecursion Q xs → Pairs R xs → Pairs S xs
pairs_where Q R S each [] known pairs = tt
pairs_where Q R S each (x ∷ xs) known pairs = (all_where Q (R x) (S x) (λ y q r. each x y known.0 q r) xs known.1 pairs.0, pairs_where Q R S each xs known.1 pairs.1)

-- ---- other lists of the same

pub map_shown : {K X Y : Type 0} (o : K → Option X) (f : X → Y) (g : K → List Y) → ((k : K) → map f (onto (o k) []) ≡ g k) → (ks : List K) → map f (shown o ks) ≡ flat_map g ks
map_shown o f g same [] = refl
map_shown {X = X} o f g same (k ∷ ks) = at (o k) (same k) ∙ ap (λ ys. g k ++ ys) (map_shown o f g same ks)
  where
    at : (p : Option X) → map f (onto p []) ≡ g k → map f (onto p (shown o ks)) ≡ g k ++ map f (shown o ks)
    at None e = ap (λ ys. ys ++ map f (shown o ks)) e
    at (Some x) e = ap (λ ys. ys ++ map f (shown o ks)) e

-- ---- numbers in a row

pub counted_above : (k from n : ℕ) → k < from → AllByRecursion (λ j. k < j) (counted from n)
counted_above k from zero low = tt
counted_above k from (suc n) low = (low, counted_above k (suc from) n (omega arith))

pub counted_rise : (from n : ℕ) → Pairs (λ k j. k < j) (counted from n)
counted_rise from zero = tt
counted_rise from (suc n) = (counted_above from (suc from) n (omega arith), counted_rise (suc from) n)

-- what is true of all is true of each
pub at_counted : (P : ℕ → Type 0) (from n : ℕ) → AllByRecursion P (counted from n) → (k : ℕ) → from ≤ k → k < from + n → P k
at_counted P from zero all k low high = absurd (omega arith)
at_counted P from (suc n) all k low high = at (nat_eq k from) refl (at_counted P (suc from) n all.1 k)
  where
    at : (b : Bool) → nat_eq k from ≡ b → (suc from ≤ k → k < suc from + n → P k) → P k
    at true e rest = subst P (sym (same_number k from e)) all.0
    at false e rest = rest (let above : suc from ≤ k = grind (arith, nat_tests) in above) (omega (arith, high))

-- what one of them has is found
pub any_counted : {X : Type 0} (o : ℕ → Option X) (p : X → Bool) (from n c : ℕ) (x : X) → from ≤ c → c < from + n → o c ≡ Some x → p x ≡ true → list_any p (shown o (counted from n)) ≡ true
any_counted o p from zero c x low high e passes = absurd (omega arith)
any_counted {X = X} o p from (suc n) c x low high e passes = at (nat_eq c from) refl (λ above. any_counted o p (suc from) n c x above (omega (arith, high)) e passes)
  where
    here : (f : Option X) → f ≡ Some x → list_any p (onto f (shown o (counted (suc from) n))) ≡ true
    here None g = absurd cc
    here (Some y) g = let same : y ≡ x = cc in or_left (p y) (list_any p (shown o (counted (suc from) n))) (ap p same ∙ passes)

    later : (f : Option X) → list_any p (shown o (counted (suc from) n)) ≡ true → list_any p (onto f (shown o (counted (suc from) n))) ≡ true
    later None rest = rest
    later (Some y) rest = or_right (p y) (list_any p (shown o (counted (suc from) n))) rest

    at : (b : Bool) → nat_eq c from ≡ b → (suc from ≤ c → list_any p (shown o (counted (suc from) n)) ≡ true) → list_any p (onto (o from) (shown o (counted (suc from) n))) ≡ true
    at true same rest = here (o from) (ap o (sym (same_number c from same)) ∙ e)
    at false other rest = later (o from) (rest (let above : suc from ≤ c = grind (arith, nat_tests) in above))

-- they have no more than pass the test that each that has something passes
pub few_shown : {X Y : Type 0} (o : ℕ → Option X) (test : Y → Bool) (from : ℕ) (ys : List Y) → ((i : ℕ) (x : X) → o (from + i) ≡ Some x → (y : Y) × (slice_get ys i ≡ Some y) × (test y ≡ true)) → length (shown o (counted from (length ys))) ≤ count_by test ys
few_shown o test from [] each = omega arith
few_shown {X = X} {Y = Y} o test from (y ∷ ys) each = at (o from) refl (few_shown o test (suc from) ys later)
  where
    later : (i : ℕ) (x : X) → o (suc from + i) ≡ Some x → (z : Y) × (slice_get ys i ≡ Some z) × (test z ≡ true)
    later i x e = each (suc i) x (let same : from + suc i ≡ suc from + i = omega arith in ap o same ∙ e)

    step : count_by test (y ∷ ys) ≡ cond (test y) 1 0 + count_by test ys
    step = sum_by-cons (λ z. cond (test z) 1 0) y ys

    own : (x : X) → o from ≡ Some x → test y ≡ true
    own x e =
        let found = each 0 x (let same : from + 0 ≡ from = omega arith in ap o same ∙ e) in
        let one : y ≡ found.0 = cc in
        ap test one ∙ found.2

    at : (f : Option X) → o from ≡ f → length (shown o (counted (suc from) (length ys))) ≤ count_by test ys → length (onto f (shown o (counted (suc from) (length ys)))) ≤ count_by test (y ∷ ys)
    at None e rest = omega (arith, rest, step)
    at (Some x) e rest = let one : cond {A = ℕ} (test y) 1 0 ≡ 1 = ap (λ (b : Bool). cond {A = ℕ} b 1 0) (own x e) in omega (arith, rest, step, one)

-- ==== which lines a list has

pub none_there : {X : Type 0} (y : X) → Contains [] y → ⊥
none_there y h = omega (arith, h.1)

pub first_or : {X : Type 0} (x : X) (xs : List X) (y : X) → Contains (x ∷ xs) y → (x ≡ y) ⊎ Contains xs y
first_or x xs y h = elim (Contains-append_cases (x ∷ []) xs y h) [
  | inl here ↦ elim (Contains-push_cases [] x y here) [ inl none ↦ absurd (none_there y none) | inr same ↦ inl same ]
  | inr later ↦ inr later
]

pub at_first : {X : Type 0} (x : X) (xs : List X) → Contains (x ∷ xs) x
at_first x xs = Contains-append_left (x ∷ []) xs x (Contains-push [] x)

pub later_too : {X : Type 0} (x : X) (xs : List X) (y : X) → Contains xs y → Contains (x ∷ xs) y
later_too x xs y h = Contains-append_right (x ∷ []) xs y h

pub one_of_all : {X : Type 0} (P : X → Type 0) (xs : List X) (y : X) → AllByRecursion P xs → Contains xs y → P y
one_of_all P [] y all h = absurd (none_there y h)
one_of_all P (x ∷ xs) y all h = elim (first_or x xs y h) [ inl same ↦ subst P same all.0 | inr later ↦ one_of_all P xs y all.1 later ]

pub all_of : {X : Type 0} (P : X → Type 0) (xs : List X) → ((x : X) → Contains xs x → P x) → AllByRecursion P xs
all_of P [] each = tt
all_of P (x ∷ xs) each = (each x (at_first x xs), all_of P xs (λ y h. each y (later_too x xs y h)))

-- lists that rise with the same elements are one
pub one_rising : {X : Type 0} (f : X → ℕ) (xs ys : List X) → Pairs (λ x y. f x < f y) xs → Pairs (λ x y. f x < f y) ys → ((x : X) → Contains xs x → Contains ys x) → ((y : X) → Contains ys y → Contains xs y) → xs ≡ ys
one_rising f [] [] rise up to from = refl
one_rising f [] (y ∷ ys) rise up to from = absurd (none_there y (from y (at_first y ys)))
one_rising f (x ∷ xs) [] rise up to from = absurd (none_there x (to x (at_first x xs)))
one_rising {X = X} f (x ∷ xs) (y ∷ ys) rise up to from =
    ap (λ z. z ∷ xs) same
    ∙ ap (λ zs. y ∷ zs)
    (one_rising f xs ys rise.1 up.1 (λ z h. behind y ys z (to z (later_too x xs z h)) (λ e. higher f xs x z rise.0 h (same ∙ e)))
    (λ z h. behind x xs z (from z (later_too y ys z h)) (λ e. higher f ys y z up.0 h (sym same ∙ e))))
  where
    higher : (g : X → ℕ) (zs : List X) (a b : X) → AllByRecursion (λ z. g a < g z) zs → Contains zs b → a ≡ b → ⊥
    higher g zs a b all h e = omega (arith, one_of_all (λ z. g a < g z) zs b all h, ap g e)

    behind : (a : X) (zs : List X) (b : X) → Contains (a ∷ zs) b → (a ≡ b → ⊥) → Contains zs b
    behind a zs b h other = elim (first_or a zs b h) [ inl e ↦ absurd (other e) | inr later ↦ later ]

    same : x ≡ y
    same = elim (first_or y ys x (to x (at_first x xs))) [
      | inl e ↦ sym e
      | inr later ↦ elim (first_or x xs y (from y (at_first y ys))) [
        | inl e ↦ e
        | inr also ↦ absurd (omega (arith, one_of_all (λ z. f y < f z) ys x up.0 later, one_of_all (λ z. f x < f z) xs y rise.0 also))
      ]
    ]

-- what stands at a place of a list stands there too where each is mapped and more follow
pub mapped_at : {X Y : Type 0} (f : X → Y) (xs : List X) (ys : List Y) (place : ℕ) (x : X) → slice_get xs place ≡ Some x → slice_get (map f xs ++ ys) place ≡ Some (f x)
mapped_at f [] ys place x e = absurd cc
mapped_at f (z ∷ xs) ys zero x e = ap Some (ap f (same_Some z x e))
mapped_at f (z ∷ xs) ys (suc place) x e = mapped_at f xs ys place x e

-- of two that aren't one, the one comes first or the other
pub either_first : {X : Type 0} (R : X → X → Type 0) (xs : List X) (a b : X) → Pairs R xs → Contains xs a → Contains xs b → (a ≡ b) ⊎ (R a b ⊎ R b a)
either_first R [] a b pairs ha hb = absurd (none_there a ha)
either_first {X = X} R (x ∷ xs) a b pairs ha hb = at (first_or x xs a ha) (first_or x xs b hb) (either_first R xs a b pairs.1)
  where
    at : (x ≡ a) ⊎ Contains xs a → (x ≡ b) ⊎ Contains xs b → (Contains xs a → Contains xs b → (a ≡ b) ⊎ (R a b ⊎ R b a)) → (a ≡ b) ⊎ (R a b ⊎ R b a)
    at (inl p) (inl q) rest = inl (sym p ∙ q)
    at (inl p) (inr q) rest = inr (inl (subst (λ (y : X). R y b) p (one_of_all (R x) xs b pairs.0 q)))
    at (inr p) (inl q) rest = inr (inr (subst (λ (y : X). R y a) q (one_of_all (R x) xs a pairs.0 p)))
    at (inr p) (inr q) rest = rest p q

pub mapped_from : {X Y : Type 0} (f : X → Y) (xs : List X) (y : Y) → Contains (map f xs) y → (x : X) × Contains xs x × (f x ≡ y)
mapped_from f [] y h = absurd (none_there y h)
mapped_from f (x ∷ xs) y h = elim (first_or (f x) (map f xs) y h) [
  | inl same ↦ (x, at_first x xs, same)
  | inr later ↦ (let found = mapped_from f xs y later in (found.0, later_too x xs found.0 found.1, found.2))
]

pub mapped_there : {X Y : Type 0} (f : X → Y) (xs : List X) (x : X) → Contains xs x → Contains (map f xs) (f x)
mapped_there f [] x h = absurd (none_there x h)
mapped_there {Y = Y} f (k ∷ xs) x h = elim (first_or k xs x h) [
  | inl same ↦ subst (λ (y : Y). Contains (f k ∷ map f xs) y) (ap f same) (at_first (f k) (map f xs))
  | inr later ↦ later_too (f k) (map f xs) (f x) (mapped_there f xs x later)
]

pub find_some : {X : Type 0} (test : X → Bool) (xs : List X) (x : X) → find test xs ≡ Some x → Contains xs x × (test x ≡ true)
find_some test [] x e = absurd cc
find_some {X = X} test (k ∷ xs) x e = at (test k) refl e (find_some test xs x)
  where
    at : (b : Bool) → test k ≡ b → cond b (Some k) (find test xs) ≡ Some x → (find test xs ≡ Some x → Contains xs x × (test x ≡ true)) → Contains (k ∷ xs) x × (test x ≡ true)
    at true h e rest = let same = same_Some k x e in (subst (λ (y : X). Contains (k ∷ xs) y) same (at_first k xs), ap test (sym same) ∙ h)
    at false h e rest = let found = rest e in (later_too k xs x found.0, found.1)

-- where one passes, one is found
pub find_there : {X : Type 0} (test : X → Bool) (xs : List X) (x : X) → Contains xs x → test x ≡ true → (y : X) × (find test xs ≡ Some y)
find_there test [] x h passes = absurd (none_there x h)
find_there {X = X} test (k ∷ xs) x h passes = at (test k) refl (first_or k xs x h) (find_there test xs x)
  where
    at : (b : Bool) → test k ≡ b → (k ≡ x) ⊎ Contains xs x → (Contains xs x → test x ≡ true → (y : X) × (find test xs ≡ Some y)) → (y : X) × (cond b (Some k) (find test xs) ≡ Some y)
    at true e or rest = (k, refl)
    at false e (inl same) rest = absurd (let yes_it_does : test k ≡ true = ap test same ∙ passes in cc)
    at false e (inr later) rest = rest later passes

pub found_in_all : {X : Type 0} (P : ℕ × X → Type 0) (es : List (ℕ × X)) (q : ℕ) (x : X) → All P es → lookup (nat_eq q) es ≡ Some x → P (q, x)
found_in_all P [] q x all e = absurd cc
found_in_all {X = X} P (k ∷ es) q x all e = at (nat_eq q k.0) refl e (found_in_all P es q x (All-tail P k es all))
  where
    at : (b : Bool) → nat_eq q k.0 ≡ b → cond b (Some k.1) (lookup (nat_eq q) es) ≡ Some x → (lookup (nat_eq q) es ≡ Some x → P (q, x)) → P (q, x)
    at true h e rest =
        let same : k.1 ≡ x = same_Some k.1 x e in
        subst (λ (n : ℕ). P (n, x)) (sym (same_number q k.0 h)) (subst (λ (y : X). P (k.0, y)) same (All-head P k es all))
    at false h e rest = rest e
