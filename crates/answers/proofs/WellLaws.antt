-- What is true of all answers stays true.
use Rattle.std.proofs.Common.{◌≡◌, ℕ, zero, suc, Bool, true, false, cond, List, [], ◌∷◌, ◌++◌, length, Option, Some, None, refl, sym, ap, ◌∙◌, arith, ◌<◌, ◌≤◌, ◌-◌, ◌+◌, ◌||◌, subst}
use Rattle.std.specs.Prelude.{nat_eq, is_some, option_map, unwrap_or, insert, IsSome, if◌then◌else◌}
use Rattle.std.specs.List.{list_any}
use Rattle.std.specs.FinMap as map
use Rattle.std.proofs.lemmas.Bool.{both_ways, false_from_ne_true, or_left, or_parts, or_right}
use Rattle.std.proofs.lemmas.Bool.Decides.{nat_tests}
use Rattle.std.proofs.lemmas.List.Edits.{insert_end, length-insert}
use Rattle.common_lemmas.proofs.Numbers.{same_number, equal_number, nat_eq-comm}
use Rattle.common_lemmas.proofs.Options.{nothing}
use Rattle.fact_values.specs.declared.slot.Slot.{Slot}
use Rattle.fact_values.specs.declared.value.Value.{Value}
use Rattle.answers.specs.declared.edit.Side.{Side}
use Rattle.answers.specs.Finite.{Numbered, put_at}
use Rattle.answers.specs.Lists.{IsIn, IsNotIn, Once, without, without_last}
use Rattle.answers.specs.Answered.{Entry, blank, Answered, list_of}
use Rattle.answers.specs.Change.{Change, sets, opens, closes, adds, takes, removes, puts_back, with_value, applied, Fits, IsListed}
use Rattle.answers.specs.WellFormed.{WellFormed, FromOne, PutsFromOne}
use Rattle.answers.proofs.FiniteLaws.{get_put, get_put_own, get_put_other}
use Rattle.answers.proofs.ListLaws.{last_off, taken_out}
use Rattle.answers.proofs.FitsLaws.{shorter, gone, here}
use Rattle.answers.proofs.StandLaws.{none_some, pick, after, elsewhere, not_listed, some_below}

-- ---- lists
or_swap : (a b c : Bool) → (a || (b || c)) ≡ (b || (a || c))
or_swap true true c = refl
or_swap true false c = refl
or_swap false b c = refl

any_insert : (p : ℕ → Bool) (xs : List ℕ) (i m : ℕ) → list_any p (insert xs i m) ≡ (p m || list_any p xs)
any_insert p xs zero m = refl
any_insert p [] (suc i) m = refl
any_insert p (x ∷ xs) (suc i) m = ap (λ b. p x || b) (any_insert p xs i m) ∙ or_swap (p x) (p m) _

turned : (m x : ℕ) (b : Bool) → nat_eq m x ≡ b → nat_eq x m ≡ b
turned m x b h = nat_eq-comm x m ∙ h

once_insert : (m i : ℕ) (xs : List ℕ) → Once xs → list_any (nat_eq m) xs ≡ false → Once (insert xs i m)
once_insert m zero xs once h = (h, once)
once_insert m (suc i) [] once h = (refl, tt)
once_insert m (suc i) (x ∷ xs) once h =
    let f : (nat_eq m x ≡ false) × (list_any (nat_eq m) xs ≡ false) = or_parts (nat_eq m x) _ h in
    (any_insert (nat_eq x) xs i m ∙ rw (turned m x false f.0) once.0, once_insert m i xs once.1 f.1)

or_more : (b c d : Bool) → (c ≡ true → d ≡ true) → (b || c) ≡ true → (b || d) ≡ true
or_more true c d f h = refl
or_more false c d f h = f h

in_head : (k m x : ℕ) (xs : List ℕ) (b : Bool) → (list_any (nat_eq k) (without m xs) ≡ true → list_any (nat_eq k) xs ≡ true) → list_any (nat_eq k) (if b then xs else x ∷ without m xs) ≡ true → (nat_eq k x || list_any (nat_eq k) xs) ≡ true
in_head k m x xs true rest h = or_right (nat_eq k x) _ h
in_head k m x xs false rest h = or_more (nat_eq k x) _ _ rest h

any_without : (k m : ℕ) (xs : List ℕ) → list_any (nat_eq k) (without m xs) ≡ true → list_any (nat_eq k) xs ≡ true
any_without k m [] h = h
any_without k m (x ∷ xs) h = in_head k m x xs (nat_eq m x) (any_without k m xs) h

not_in : (k m : ℕ) (xs : List ℕ) → list_any (nat_eq k) xs ≡ false → list_any (nat_eq k) (without m xs) ≡ false
not_in k m xs h = false_from_ne_true _ (λ e. both_ways _ h (any_without k m xs e))

once_head : (m x : ℕ) (xs : List ℕ) (b : Bool) → list_any (nat_eq x) xs ≡ false → Once xs → Once (without m xs) → Once (if b then xs else x ∷ without m xs)
once_head m x xs true h once rest = once
once_head m x xs false h once rest = (not_in x m xs h, rest)

once_without : (m : ℕ) (xs : List ℕ) → Once xs → Once (without m xs)
once_without m [] once = tt
once_without m (x ∷ xs) once = once_head m x xs (nat_eq m x) once.0 once.1 (once_without m xs once.1)

any_push : (p : ℕ → Bool) (xs : List ℕ) (n : ℕ) → list_any p (xs ++ n ∷ []) ≡ (p n || list_any p xs)
any_push p xs n = rw (← insert_end xs n) (any_insert p xs (length xs) n)

-- the last of a list whose members stand once isn't in the rest
last_once : (n : ℕ) (xs : List ℕ) → Once (xs ++ n ∷ []) → IsNotIn n xs
last_once n [] once = refl
last_once n (x ∷ xs) once =
    let f : (nat_eq x n ≡ false) × (list_any (nat_eq x) xs ≡ false) = or_parts (nat_eq x n) _ (sym (any_push (nat_eq x) xs n) ∙ once.0) in
    rw (turned x n false f.0) (last_once n xs once.1)

-- ---- one list and the members change
pub record Step (a : Answered) (n c : ℕ) (ys : List ℕ) (ms : Numbered Entry) : Type 0 where
  pub high : n ≤ 1000001
  pub below : (k : ℕ) → n ≤ k → map.get ms k ≡ None
  pub short : length ys ≤ 100
  pub once : Once ys
  pub listed : (k : ℕ) → list_any (nat_eq k) ys ≡ true → IsSome (map.get ms k)
  pub others : (d k : ℕ) → nat_eq c d ≡ false → list_any (nat_eq k) (list_of a d) ≡ true → IsSome (map.get ms k)
  pub apart : (d k : ℕ) → nat_eq c d ≡ false → list_any (nat_eq k) ys ≡ true → list_any (nat_eq k) (list_of a d) ≡ true → ⊥
  pub only : (k : ℕ) → IsSome (map.get ms k) → IsNotIn k ys → (d : ℕ) × (nat_eq c d ≡ false) × IsIn k (list_of a d)

only_after : (a : Answered) (c k : ℕ) (o : Option (List ℕ)) → (IsNotIn k (unwrap_or o []) → (d : ℕ) × (nat_eq c d ≡ false) × IsIn k (list_of a d)) → (b : Bool) → list_any (nat_eq k) (unwrap_or o []) ≡ b
    → (d : ℕ) × IsIn k (unwrap_or (map.get (put_at a.lists c o) d) [])
only_after a c k o s true e = (c, subst (λ xs. IsIn k xs) (sym (ap (λ p. unwrap_or p []) (get_put_own a.lists c o))) e)
only_after a c k o s false e =
    let f : (d : ℕ) × (nat_eq c d ≡ false) × IsIn k (list_of a d) = s e in
    (f.0, after (IsIn k) a.lists c f.0 o (λ t. absurd (both_ways _ f.1 t)) (λ _. f.2))

pub well_step : (a : Answered) (n c : ℕ) (o : Option (List ℕ)) (ms : Numbered Entry) (g : Entry) → WellFormed a → Step a n c (unwrap_or o []) ms → WellFormed (record { next = n; lists = put_at a.lists c o; globals = g; members = ms })
well_step a n c o ms g w s =
    let ys = unwrap_or o [] in
    record {
      high = s.high;
      below = s.below;
      short = λ d. after (λ xs. length xs ≤ 100) a.lists c d o (λ _. s.short) (λ _. w.short d);
      distinct = λ d. after Once a.lists c d o (λ _. s.once) (λ _. w.distinct d);
      listed = λ d k. after (λ xs. IsIn k xs → IsSome (map.get ms k)) a.lists c d o (λ _. s.listed k) (s.others d k);
      apart = λ d e k. after (λ xs. IsIn k xs → IsIn k (unwrap_or (map.get (put_at a.lists c o) e) []) → d ≡ e) a.lists c d o
          (λ cd. after (λ zs. IsIn k ys → IsIn k zs → d ≡ e) a.lists c e o (λ ce x y. sym (same_number c d cd) ∙ same_number c e ce) (λ ce x y. absurd (s.apart e k ce x y)))
          (λ cd. after (λ zs. IsIn k (list_of a d) → IsIn k zs → d ≡ e) a.lists c e o (λ ce x y. absurd (s.apart d k cd y x)) (λ ce x y. w.apart d e k x y));
      only = λ k some. only_after a c k o (s.only k some) (list_any (nat_eq k) ys) refl;
    }

-- ---- each change
some_put_other : (ms : Numbered Entry) (m k : ℕ) (o : Option Entry) → nat_eq m k ≡ false → IsSome (map.get ms k) → IsSome (map.get (put_at ms m o) k)
some_put_other ms m k o e h = subst (λ p. IsSome p) (sym (get_put_other ms m k o e)) h

some_put_some : (ms : Numbered Entry) (m k : ℕ) (e : Entry) → (nat_eq m k ≡ false → IsSome (map.get ms k)) → IsSome (map.get (put_at ms m (Some e)) k)
some_put_some ms m k e h = subst (λ p. IsSome p) (sym (get_put ms m (Some e) k)) (by (nat_eq m k) refl)
  where
    by : (b : Bool) → nat_eq m k ≡ b → IsSome (cond b (Some e) (map.get ms k))
    by true q = refl
    by false q = h q

apart_of : (a : Answered) (c d k : ℕ) → WellFormed a → nat_eq c d ≡ false → list_any (nat_eq k) (list_of a c) ≡ true → list_any (nat_eq k) (list_of a d) ≡ true → ⊥
apart_of a c d k w e x y = both_ways _ (elsewhere a c d k w x e) y

-- no list has a number that has no entry
absent_from : (a : Answered) (d n : ℕ) → WellFormed a → map.get a.members n ≡ None → list_any (nat_eq n) (list_of a d) ≡ false
absent_from a d n w none = false_from_ne_true _ (λ e. none_some (map.get a.members n) none (w.listed d n e))

-- of two numbers, one in a list and one not
differ : (m k : ℕ) (xs : List ℕ) → list_any (nat_eq m) xs ≡ false → list_any (nat_eq k) xs ≡ true → nat_eq m k ≡ false
differ m k xs out inn = false_from_ne_true _ (λ e. both_ways _ out (subst (λ z. list_any (nat_eq z) xs ≡ true) (sym (same_number m k e)) inn))

differ_out : (m k : ℕ) (xs : List ℕ) → IsIn m xs → IsNotIn k xs → nat_eq m k ≡ false
differ_out m k xs inn out = turned k m false (differ k m xs out inn)

in_rest : (k m : ℕ) (r : Bool) → nat_eq k m ≡ false → (nat_eq k m || r) ≡ true → r ≡ true
in_rest k m r e h = sym (ap (λ b. b || r) e) ∙ h

-- a member that stands and isn't in the new list is in another one
pub listed_elsewhere : (a : Answered) (c k : ℕ) (ys : List ℕ) → WellFormed a → IsSome (map.get a.members k) → (IsIn k (list_of a c) → IsIn k ys) → IsNotIn k ys → (d : ℕ) × (nat_eq c d ≡ false) × IsIn k (list_of a d)
listed_elsewhere a c k ys w some into out =
    let l : IsListed a k = w.only k some in
    (l.0, false_from_ne_true _ (λ e. both_ways _ out (into (subst (λ z. IsIn k (list_of a z)) (sym (same_number c l.0 e)) l.1))), l.1)

some_was : (ms : Numbered Entry) (m k : ℕ) (o : Option Entry) → nat_eq m k ≡ false → IsSome (map.get (put_at ms m o) k) → IsSome (map.get ms k)
some_was ms m k o e h = subst (λ p. IsSome p) (get_put_other ms m k o e) h

-- nothing stands at a key: what was put elsewhere, or nothing was put there
none_put : {X : Type 0} (ms : Numbered X) (m k : ℕ) (o : Option X) → (nat_eq m k ≡ true → o ≡ None) → (nat_eq m k ≡ false → map.get ms k ≡ None) → map.get (put_at ms m o) k ≡ None
none_put ms m k o own other = get_put ms m o k ∙ by (nat_eq m k) refl
  where
    by : (b : Bool) → nat_eq m k ≡ b → cond b o (map.get ms k) ≡ None
    by true e = own e
    by false e = other e

-- where a member k stands after one was put in, or taken out
after_put : (a : Answered) (c n k : ℕ) (e : Entry) (ys : List ℕ) → WellFormed a → IsIn n ys → (IsIn k (list_of a c) → IsIn k ys) → IsSome (map.get (put_at a.members n (Some e)) k) → IsNotIn k ys
    → (d : ℕ) × (nat_eq c d ≡ false) × IsIn k (list_of a d)
after_put a c n k e ys w own into some out =
    let other : nat_eq n k ≡ false = differ_out n k ys own out in
    listed_elsewhere a c k ys w (some_was a.members n k (Some e) other some) into out

after_taken : (a : Answered) (c n k : ℕ) (ys : List ℕ) → WellFormed a → (nat_eq n k ≡ false → IsIn k (list_of a c) → IsIn k ys) → IsSome (map.get (put_at a.members n None) k) → IsNotIn k ys
    → (d : ℕ) × (nat_eq c d ≡ false) × IsIn k (list_of a d)
after_taken a c n k ys w into some out =
    let other : nat_eq n k ≡ false = false_from_ne_true _ (λ q. none_some _ (none_put {X = Entry} a.members n k None (λ _. refl) (λ e. absurd (both_ways _ e q))) some) in
    listed_elsewhere a c k ys w (some_was a.members n k None other some) (into other) out

-- the other members stay
kept_head : (k m x : ℕ) (xs : List ℕ) (b : Bool) → nat_eq m x ≡ b → nat_eq k m ≡ false → (IsIn k xs → IsIn k (without m xs)) → (nat_eq k x || list_any (nat_eq k) xs) ≡ true → IsIn k (if b then xs else x ∷ without m xs)
kept_head k m x xs true e other rest h = let not_x : nat_eq k x ≡ false = subst (λ z. nat_eq k z ≡ false) (same_number m x e) other in in_rest k x _ not_x h
kept_head k m x xs false e other rest h = or_more (nat_eq k x) _ _ rest h

pub any_kept : (k m : ℕ) (xs : List ℕ) → nat_eq k m ≡ false → IsIn k xs → IsIn k (without m xs)
any_kept k m [] other h = h
any_kept k m (x ∷ xs) other h = kept_head k m x xs (nat_eq m x) refl other (any_kept k m xs other) h

empty_step : (a : Answered) (c : ℕ) → WellFormed a → list_of a c ≡ [] → Step a a.next c [] a.members
empty_step a c w empty = record {
  high = w.high;
  below = w.below;
  short = omega arith;
  once = tt;
  listed = λ k h. absurd cc;
  others = λ d k e h. w.listed d k h;
  apart = λ d k e h h'. absurd cc;
  only = λ k some out. listed_elsewhere a c k [] w some (subst (λ xs. IsIn k xs) empty) out;
}

same_stand : (a : Answered) (g : Entry) (ms : Numbered Entry) → WellFormed a → ((k : ℕ) → is_some (map.get ms k) ≡ is_some (map.get a.members k)) → WellFormed (record { next = a.next; lists = a.lists; globals = g; members = ms })
same_stand a g ms w same = record {
  high = w.high;
  below = λ k le. nothing (map.get ms k) (same k ∙ ap is_some (w.below k le));
  short = w.short;
  distinct = w.distinct;
  listed = λ c k h. same k ∙ w.listed c k h;
  apart = w.apart;
  only = λ k some. w.only k (sym (same k) ∙ some);
}

stands_same : (ms : Numbered Entry) (m : ℕ) (f : Entry → Entry) (k : ℕ) → is_some (map.get (put_at ms m (option_map f (map.get ms m))) k) ≡ is_some (map.get ms k)
stands_same ms m f k = ap is_some (get_put ms m (option_map f (map.get ms m)) k) ∙ by (nat_eq m k) refl
  where
    mapped : (o : Option Entry) → is_some (option_map f o) ≡ is_some o
    mapped None = refl
    mapped (Some e) = refl

    by : (b : Bool) → nat_eq m k ≡ b → is_some (cond b (option_map f (map.get ms m)) (map.get ms k)) ≡ is_some (map.get ms k)
    by true e = mapped (map.get ms m) ∙ ap (λ z. is_some (map.get ms z)) (same_number m k e)
    by false e = refl

set_well : (side : Side) (a : Answered) (s : Slot) (v : Option Value) (b : Bool) → nat_eq s.member 0 ≡ b → WellFormed a → WellFormed (applied (sets side s v) a)
set_well side a s v true e w = rw e (same_stand a _ a.members w (λ k. refl))
set_well side a s v false e w = rw e (same_stand a _ _ w (stands_same a.members s.member (with_value side s.fact v)))

-- a member comes in, at a place of its collection
enter_step : (a : Answered) (n c place m : ℕ) (e : Entry) → WellFormed a → n ≤ 1000001 → a.next ≤ n → m < n → length (list_of a c) < 100 → place ≤ length (list_of a c) → map.get a.members m ≡ None
    → Step a n c (insert (list_of a c) place m) (put_at a.members m (Some e))
enter_step a n c place m e w high more before short within none =
    let fresh = λ (d : ℕ). absent_from a d m w none in
    record {
      high = high;
      below = λ k le. let other : nat_eq m k ≡ false = grind (arith, nat_tests) in get_put_other a.members m k (Some e) other ∙ w.below k (omega arith);
      short = let l : length (insert (list_of a c) place m) ≡ length (list_of a c) + 1 = length-insert (list_of a c) place m within in omega arith;
      once = once_insert m place (list_of a c) (w.distinct c) (fresh c);
      listed = λ k h. some_put_some a.members m k e (λ o. w.listed c k (in_rest k m _ (turned m k false o) (sym (any_insert (nat_eq k) (list_of a c) place m) ∙ h)));
      others = λ d k o h. some_put_some a.members m k e (λ _. w.listed d k h);
      apart = λ d k o h h'. apart_of a c d k w o (in_rest k m _ (turned m k false (differ m k (list_of a d) (fresh d) h')) (sym (any_insert (nat_eq k) (list_of a c) place m) ∙ h)) h';
      only = λ k some out. after_put a c m k e _ w (here m place (list_of a c) within) (λ h. any_insert (nat_eq k) (list_of a c) place m ∙ or_right (nat_eq k m) _ h) some out;
    }

add_step : (a : Answered) (c : ℕ) → WellFormed a → length (list_of a c) < 100 → a.next ≤ 1000000 → Step a (a.next + 1) c (list_of a c ++ a.next ∷ []) (put_at a.members a.next (Some blank))
add_step a c w short high =
    subst (λ ys. Step a (a.next + 1) c ys (put_at a.members a.next (Some blank))) (insert_end (list_of a c) a.next)
    (enter_step a (a.next + 1) c (length (list_of a c)) a.next blank w (omega arith) (omega arith) (omega arith) short (omega arith) (w.below a.next (omega arith)))

-- a member goes
leave_step : (a : Answered) (n c m : ℕ) → WellFormed a → n ≤ 1000001 → ((k : ℕ) → n ≤ k → nat_eq m k ≡ false → map.get a.members k ≡ None) → IsIn m (list_of a c)
    → Step a n c (without m (list_of a c)) (put_at a.members m None)
leave_step a n c m w high below there =
    let less : length (without m (list_of a c)) + 1 ≡ length (list_of a c) = shorter m (list_of a c) there in
    let most : length (list_of a c) ≤ 100 = w.short c in
    let out = gone m (list_of a c) (w.distinct c) in
    record {
      high = high;
      below = λ k le. none_put {X = Entry} a.members m k None (λ _. refl) (below k le);
      short = omega arith;
      once = once_without m (list_of a c) (w.distinct c);
      listed = λ k h. some_put_other a.members m k None (differ m k _ out h) (w.listed c k (any_without k m (list_of a c) h));
      others = λ d k e h. some_put_other a.members m k None (differ m k (list_of a d) (elsewhere a c d m w there e) h) (w.listed d k h);
      apart = λ d k e h h'. apart_of a c d k w e (any_without k m (list_of a c) h) h';
      only = λ k some out. after_taken a c m k _ w (λ q h. any_kept k m (list_of a c) (turned m k false q) h) some out;
    }

take_step : (a : Answered) (c n : ℕ) (xs : List ℕ) → WellFormed a → a.next ≡ n + 1 → list_of a c ≡ xs ++ n ∷ [] → Step a n c xs (put_at a.members n None)
take_step a c n xs w is listed =
    let high : a.next ≤ 1000001 = w.high in
    let last : IsIn n (list_of a c) = subst (IsIn n) (sym listed) (any_push (nat_eq n) xs n ∙ or_left (nat_eq n n) _ (equal_number n)) in
    let rest : without n (list_of a c) ≡ xs = ap (without n) (listed ∙ sym (insert_end xs n)) ∙ taken_out n (length xs) xs (omega arith) (last_once n xs (subst Once listed (w.distinct c))) in
    subst (λ ys. Step a n c ys (put_at a.members n None)) rest
    (leave_step a n c n w (omega arith) (λ k le e. let more : a.next ≤ k = grind (arith, nat_tests) in w.below k more) last)

taken : (closed : Bool) (xs : List ℕ) (n : ℕ) → (closed ≡ true → xs ≡ []) → unwrap_or (if closed then None else Some (without_last (xs ++ n ∷ []))) [] ≡ xs
taken true xs n one = sym (one refl)
taken false xs n one = last_off xs n

pub applied_well : (c : Change) (a : Answered) → WellFormed a → Fits c a → WellFormed (applied c a)
applied_well (sets side s v) a w fits = set_well side a s v (nat_eq s.member 0) refl w
applied_well (opens c) a w fits = well_step a a.next c (Some []) a.members a.globals w (empty_step a c w (ap (λ o. unwrap_or o []) fits))
applied_well (closes c) a w fits = well_step a a.next c None a.members a.globals w (empty_step a c w (ap (λ o. unwrap_or o []) fits))
applied_well (adds c) a w fits = well_step a (a.next + 1) c (Some (list_of a c ++ a.next ∷ [])) (put_at a.members a.next (Some blank)) a.globals w (add_step a c w fits.0 fits.1)
applied_well (takes c closed) a w (xs, at, empty, one) =
    let at_last : IsSome (map.get a.members (a.next - 1)) = rw empty refl in
    let listed : list_of a c ≡ xs ++ (a.next - 1) ∷ [] = ap (λ o. unwrap_or o []) at in
    let ys : unwrap_or (if closed then None else Some (without_last (list_of a c))) [] ≡ xs = rw listed (taken closed xs (a.next - 1) one) in
    let low : 1 ≤ a.next = some_below a w at_last in
    let n : a.next ≡ a.next - 1 + 1 = omega arith in
    well_step a (a.next - 1) c (if closed then None else Some (without_last (list_of a c))) (put_at a.members (a.next - 1) None) a.globals w
    (subst (λ zs. Step a (a.next - 1) c zs (put_at a.members (a.next - 1) None)) (sym ys) (take_step a c (a.next - 1) xs w n listed))
applied_well (removes c m) a w there =
    well_step a a.next c (Some (without m (list_of a c))) (put_at a.members m None) a.globals w (leave_step a a.next c m w w.high (λ k le _. w.below k le) there)
applied_well (puts_back c place m e) a w (xs, at, short, within, out, before) =
    let listed : list_of a c ≡ xs = ap (λ o. unwrap_or o []) at in
    well_step a a.next c (Some (insert (list_of a c) place m)) (put_at a.members m (Some e)) a.globals w
    (enter_step a a.next c place m e w w.high (omega arith) before (subst (λ ys. length ys < 100) (sym listed) short) (subst (λ ys. place ≤ length ys) (sym listed) within) (not_listed a m w out))

-- no member gets the number 0
not_zero : {o : Option Entry} (m : ℕ) → 1 ≤ m → nat_eq m 0 ≡ true → o ≡ None
not_zero m le e = absurd (grind (arith, nat_tests))

zero_stays : (ms : Numbered Entry) (m : ℕ) (f : Entry → Entry) → map.get ms 0 ≡ None → nat_eq m 0 ≡ true → option_map f (map.get ms m) ≡ None
zero_stays ms m f none e = ap (λ k. option_map f (map.get ms k)) (same_number m 0 e) ∙ ap (option_map f) none

zero_sets : (side : Side) (a : Answered) (s : Slot) (v : Option Value) → map.get a.members 0 ≡ None → map.get (applied (sets side s v) a).members 0 ≡ None
zero_sets side a s v none = pick (λ ms. map.get ms 0 ≡ None) (nat_eq s.member 0) a.members _ (λ _. none) (λ _. none_put a.members s.member 0 _ (zero_stays a.members s.member (with_value side s.fact v) none) (λ _. none))

-- the newest member isn't 0, so it leaves a next number from 1
newest_from_one : (a : Answered) → FromOne a → map.get a.members (a.next - 1) ≡ Some blank → 1 ≤ a.next - 1
newest_from_one a f empty =
    let other : nat_eq (a.next - 1) 0 ≡ false = false_from_ne_true _ (λ e. none_some (map.get a.members (a.next - 1)) (ap (map.get a.members) (same_number (a.next - 1) 0 e) ∙ f.zero) (rw empty refl)) in
    grind (arith, nat_tests)

pub applied_from_one : (c : Change) (a : Answered) → FromOne a → Fits c a → PutsFromOne c → FromOne (applied c a)
applied_from_one (sets side s v) a f fits from = record { low = f.low; zero = zero_sets side a s v f.zero }
applied_from_one (opens c) a f fits from = record { low = f.low; zero = f.zero }
applied_from_one (closes c) a f fits from = record { low = f.low; zero = f.zero }
applied_from_one (adds c) a f fits from = record { low = omega arith; zero = none_put a.members a.next 0 (Some blank) (not_zero a.next f.low) (λ _. f.zero) }
applied_from_one (takes c closed) a f (xs, at, empty, one) from = record { low = newest_from_one a f empty; zero = none_put a.members (a.next - 1) 0 None (λ _. refl) (λ _. f.zero) }
applied_from_one (removes c m) a f fits from = record { low = f.low; zero = none_put a.members m 0 None (λ _. refl) (λ _. f.zero) }
applied_from_one (puts_back c place m e) a f fits from = record { low = f.low; zero = none_put a.members m 0 (Some e) (not_zero m from) (λ _. f.zero) }
