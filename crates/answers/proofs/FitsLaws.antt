-- A change that fits has an inverse that fits the answers after it.
use Rattle.std.proofs.Common.{◌≡◌, ℕ, zero, suc, Bool, true, false, List, [], ◌∷◌, ◌++◌, length, inl, inr, Option, Some, None, refl, ap, ◌∙◌, arith, ◌<◌, ◌≤◌, ◌-◌, ◌+◌, ◌||◌, length-append}
use Rattle.std.specs.Prelude.{nat_eq, is_some, not, unwrap_or, insert, IsSome, if◌then◌else◌}
use Rattle.std.specs.List.{list_any}
use Rattle.std.specs.FinMap as map
use Rattle.std.proofs.lemmas.Bool.{cases_lt, or_right}
use Rattle.common_lemmas.proofs.Numbers.{same_number, equal_number}
use Rattle.answers.specs.Finite.{Numbered, put_at}
use Rattle.answers.specs.Lists.{IsIn, IsNotIn, Once, without, place_of, without_last}
use Rattle.answers.specs.Answered.{blank, Answered, list_of}
use Rattle.answers.specs.Change.{Change, sets, opens, closes, adds, takes, removes, puts_back, applied, inverse, Fits}
use Rattle.answers.specs.WellFormed.{WellFormed}
use Rattle.answers.proofs.StandLaws.{none_some, elsewhere, after, list_is}
use Rattle.answers.proofs.FiniteLaws.{get_put_own}
use Rattle.answers.proofs.ListLaws.{place_within, last_off}

none_list : (o : Option (List ℕ)) → not (is_some o) ≡ true → unwrap_or o [] ≡ []
none_list None h = refl
none_list (Some xs) h = absurd cc

shorter_head : (m x : ℕ) (xs : List ℕ) (b : Bool) → (b || list_any (nat_eq m) xs) ≡ true → (list_any (nat_eq m) xs ≡ true → length (without m xs) + 1 ≡ length xs) → length (if b then xs else x ∷ without m xs) + 1 ≡ suc (length xs)
shorter_head m x xs true h rest = omega arith
shorter_head m x xs false h rest = let r : length (without m xs) + 1 ≡ length xs = rest h in omega arith

pub shorter : (m : ℕ) (xs : List ℕ) → list_any (nat_eq m) xs ≡ true → length (without m xs) + 1 ≡ length xs
shorter m [] h = absurd cc
shorter m (x ∷ xs) h = shorter_head m x xs (nat_eq m x) h (shorter m xs)

gone_head : (m x : ℕ) (xs : List ℕ) (b : Bool) → nat_eq m x ≡ b → list_any (nat_eq x) xs ≡ false → list_any (nat_eq m) (without m xs) ≡ false → list_any (nat_eq m) (if b then xs else x ∷ without m xs) ≡ false
gone_head m x xs true e once rest = rw (same_number m x e) once
gone_head m x xs false e once rest = rw e rest

pub gone : (m : ℕ) (xs : List ℕ) → Once xs → list_any (nat_eq m) (without m xs) ≡ false
gone m [] once = refl
gone m (x ∷ xs) once = gone_head m x xs (nat_eq m x) refl once.0 (gone m xs once.1)

pub here : (m i : ℕ) (xs : List ℕ) → i ≤ length xs → list_any (nat_eq m) (insert xs i m) ≡ true
here m zero xs le = rw (equal_number m) refl
here m (suc i) [] le = absurd (omega arith)
here m (suc i) (x ∷ xs) le = or_right (nat_eq m x) _ (here m i xs (omega arith))

before_next : (m : ℕ) (a : Answered) → WellFormed a → IsSome (map.get a.members m) → m < a.next
before_next m a w some = elim (cases_lt m a.next) [ inl less ↦ less | inr le ↦ absurd (none_some _ (w.below m le) some) ]

taken_short : (ls : Numbered (List ℕ)) (c n : ℕ) (xs : List ℕ) (closed : Bool) → length xs < 100
    → length (unwrap_or (map.get (put_at ls c (if closed then None else Some (without_last (xs ++ n ∷ [])))) c) []) < 100
taken_short ls c n xs true h = rw (get_put_own {X = List ℕ} ls c None) (omega arith)
taken_short ls c n xs false h = rw (get_put_own ls c (Some (without_last (xs ++ n ∷ [])))) (rw (last_off xs n) h)

-- the list of a collection after a member was taken out: it is in no list any more
out_of_all : (a : Answered) (c m : ℕ) → WellFormed a → IsIn m (list_of a c) → (d : ℕ) → IsNotIn m (list_of (applied (removes c m) a) d)
out_of_all a c m w here d = after (IsNotIn m) a.lists c d (Some (without m (list_of a c))) (λ _. gone m (list_of a c) (w.distinct c)) (elsewhere a c d m w here)

pub inverse_fits : (c : Change) (a : Answered) → WellFormed a → Fits c a → Fits (inverse c a) (applied c a)
inverse_fits (sets side s v) a well fits = fits
inverse_fits (opens c) a well fits = get_put_own a.lists c (Some [])
inverse_fits (closes c) a well fits = get_put_own {X = List ℕ} a.lists c None
inverse_fits (adds c) a well fits =
    let n : a.next + 1 - 1 ≡ a.next = omega arith in
    (list_of a c, rw n (get_put_own a.lists c (Some (list_of a c ++ a.next ∷ []))), rw n (get_put_own a.members a.next (Some blank)), none_list (map.get a.lists c))
inverse_fits (takes c closed) a well (xs, at, empty, one) =
    let is : list_of a c ≡ xs ++ (a.next - 1) ∷ [] = list_is a c (xs ++ (a.next - 1) ∷ []) at in
    let most : length (list_of a c) ≤ 100 = well.short c in
    let long : length (list_of a c) ≡ length xs + 1 = ap length is ∙ length-append xs ((a.next - 1) ∷ []) in
    let high : a.next ≤ 1000001 = well.high in
    (rw is (taken_short a.lists c (a.next - 1) xs closed (omega arith)), omega arith)
inverse_fits (removes c m) a well here =
    let less : length (without m (list_of a c)) + 1 ≡ length (list_of a c) = shorter m (list_of a c) here in
    let place : place_of m (list_of a c) < length (list_of a c) = place_within m (list_of a c) here in
    let most : length (list_of a c) ≤ 100 = well.short c in
    (without m (list_of a c), get_put_own a.lists c (Some (without m (list_of a c))), omega arith, omega arith, out_of_all a c m well here, before_next m a well (well.listed c m here))
inverse_fits (puts_back c place m e) a well (xs, at, short, within, out, below) =
    let is : list_of a c ≡ xs = list_is a c xs at in
    rw (get_put_own a.lists c (Some (insert (list_of a c) place m))) (rw is (here m place xs within))
