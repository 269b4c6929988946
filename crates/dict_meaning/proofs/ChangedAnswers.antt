-- What a change makes of lists, of the members in them and of what slots have.
use Rattle.std.proofs.Common.{◌≡◌, ℕ, zero, suc, ◌-◌, ◌≤◌, Bool, true, false, cond, ◌||◌, if◌then◌else◌, nat_eq, List, [], ◌∷◌, ◌++◌, length, Option, Some, None, unwrap_or, refl, sym, ap, subst, ◌∙◌, arith, length-append}
use Rattle.std.specs.Prelude.{insert}
use Rattle.std.specs.List.{list_any}
use Rattle.std.specs.FinMap as map
use Rattle.std.proofs.lemmas.Bool.Decides.{nat_tests}
use Rattle.std.proofs.lemmas.List.Edits.{length-insert}
use Rattle.std.proofs.lemmas.List.Folds.{list_any-append}
use Rattle.fact_values.specs.declared.slot.Slot.{Slot}
use Rattle.fact_values.specs.declared.value.Value.{Value}
use Rattle.common_lemmas.proofs.Bools.{or_false, or_left}
use Rattle.common_lemmas.proofs.Numbers.{nat_eq-comm, same_number}
use Rattle.answers.specs.Answered.{Answered, Entry, blank, list_of, of_side, value_of}
use Rattle.answers.specs.Change.{Change, sets, opens, closes, adds, takes, removes, puts_back, applied, Fits}
use Rattle.answers.specs.Finite.{Numbered, and_then, put_at}
use Rattle.answers.specs.Lists.{IsIn, IsNotIn, without, without_last}
use Rattle.answers.specs.WellFormed.{WellFormed}
use Rattle.answers.specs.declared.edit.Side.{Side}
use Rattle.answers.proofs.FiniteLaws.{get_put, get_put_other, get_put_own}
use Rattle.answers.proofs.FitsLaws.{shorter}
use Rattle.answers.proofs.ListLaws.{last_off}
use Rattle.answers.proofs.StandLaws.{list_after, list_is, none_some}
use Rattle.dict_meaning.specs.Undone.{came, went}

-- ---- lists

-- the list of a collection without its newest member
taken : (a : Answered) (c : ℕ) (closed : Bool) → Fits (takes c closed) a → (xs : List ℕ) × (list_of a c ≡ xs ++ (a.next - 1) ∷ []) × (unwrap_or (if closed then None else Some (without_last (list_of a c))) [] ≡ xs)
taken a c true (xs, at, empty, one) = (xs, list_is a c (xs ++ (a.next - 1) ∷ []) at, sym (one refl))
taken a c false (xs, at, empty, one) = (xs, list_is a c (xs ++ (a.next - 1) ∷ []) at, ap without_last (list_is a c (xs ++ (a.next - 1) ∷ []) at) ∙ last_off xs (a.next - 1))

-- it has another length, or is opened or closed
other_length : (xs ys : List ℕ) → nat_eq (length xs) (length ys) ≡ false → xs ≡ ys → ⊥
other_length xs ys other e = let same : length xs ≡ length ys = ap length e in absurd (grind (arith, nat_tests))

other_list : (o p : Option (List ℕ)) → nat_eq (length (unwrap_or o [])) (length (unwrap_or p [])) ≡ false → o ≡ p → ⊥
other_list o p other e = other_length (unwrap_or o []) (unwrap_or p []) other (ap (λ q. unwrap_or q []) e)

pub open_differs : (a : Answered) (c : ℕ) → Fits (opens c) a → map.get (applied (opens c) a).lists c ≡ map.get a.lists c → ⊥
open_differs a c none e = let some : Some [] ≡ None = sym (get_put_own a.lists c (Some [])) ∙ e ∙ none in cc

pub close_differs : (a : Answered) (c : ℕ) → Fits (closes c) a → map.get (applied (closes c) a).lists c ≡ map.get a.lists c → ⊥
close_differs a c some e = let none : None ≡ Some [] = sym (get_put_own {X = List ℕ} a.lists c None) ∙ e ∙ some in cc

pub add_differs : (a : Answered) (c : ℕ) → map.get (applied (adds c) a).lists c ≡ map.get a.lists c → ⊥
add_differs a c e =
    let longer = length-append (list_of a c) (a.next ∷ []) in
    other_list (Some (list_of a c ++ a.next ∷ [])) (map.get a.lists c) (grind (arith, nat_tests)) (sym (get_put_own a.lists c (Some (list_of a c ++ a.next ∷ []))) ∙ e)

pub take_differs : (a : Answered) (c : ℕ) (closed : Bool) → Fits (takes c closed) a → map.get (applied (takes c closed) a).lists c ≡ map.get a.lists c → ⊥
take_differs a c closed fits e =
    let is = taken a c closed fits in
    let longer = length-append is.0 ((a.next - 1) ∷ []) in
    let o : Option (List ℕ) = if closed then None else Some (without_last (list_of a c)) in
    other_length is.0 (is.0 ++ (a.next - 1) ∷ []) (grind (arith, nat_tests)) (sym is.2 ∙ ap (λ q. unwrap_or q []) (sym (get_put_own a.lists c o) ∙ e) ∙ is.1)

pub remove_differs : (a : Answered) (c m : ℕ) → Fits (removes c m) a → map.get (applied (removes c m) a).lists c ≡ map.get a.lists c → ⊥
remove_differs a c m here e =
    let less = shorter m (list_of a c) here in
    other_list (Some (without m (list_of a c))) (map.get a.lists c) (grind (arith, nat_tests)) (sym (get_put_own a.lists c (Some (without m (list_of a c)))) ∙ e)

pub back_differs : (a : Answered) (c place m : ℕ) (x : Entry) → Fits (puts_back c place m x) a → map.get (applied (puts_back c place m x) a).lists c ≡ map.get a.lists c → ⊥
back_differs a c place m x (xs, at, short, within, out, early) e =
    let is = list_is a c xs at in
    let longer = length-insert (list_of a c) place m (rw is within) in
    other_list (Some (insert (list_of a c) place m)) (map.get a.lists c) (grind (arith, nat_tests)) (sym (get_put_own a.lists c (Some (insert (list_of a c) place m))) ∙ e)

-- ---- members

-- the member that went is in no list
pub went_out : (c : Change) (a : Answered) → WellFormed a → Fits c a → (m : ℕ) → went c a m ≡ true → (k : ℕ) → IsNotIn m (list_of a k)
went_out (adds c) a w fits m e k = at (list_any (nat_eq m) (list_of a k)) refl
  where
    at : (b : Bool) → list_any (nat_eq m) (list_of a k) ≡ b → b ≡ false
    at false i = refl
    at true i = absurd (let high : a.next ≤ m = grind (arith, nat_tests) in none_some (map.get a.members m) (w.below m high) (w.listed k m i))
went_out (puts_back c place n x) a w (xs, at, short, within, out, early) m e k = let same : m ≡ n = grind (arith, nat_tests) in subst (λ z. IsNotIn z (list_of a k)) (sym same) (out k)
went_out _ a w fits m e k = absurd (cc)

without_in : (m n : ℕ) (xs : List ℕ) → IsIn m (without n xs) → IsIn m xs
without_in m n [] i = i
without_in m n (x ∷ xs) i = at (nat_eq n x) (without_in m n xs) i
  where
    behind : (b : Bool) → IsIn m xs → (b || list_any (nat_eq m) xs) ≡ true
    behind true i = refl
    behind false i = i

    head : (b : Bool) → (IsIn m (without n xs) → IsIn m xs) → (b || list_any (nat_eq m) (without n xs)) ≡ true → (b || list_any (nat_eq m) xs) ≡ true
    head true rest i = refl
    head false rest i = rest i

    at : (b : Bool) → (IsIn m (without n xs) → IsIn m xs) → IsIn m (if b then xs else x ∷ without n xs) → IsIn m (x ∷ xs)
    at true rest i = behind (nat_eq m x) i
    at false rest i = head (nat_eq m x) rest i

insert_in : (m n i : ℕ) (xs : List ℕ) → nat_eq m n ≡ false → IsIn m (insert xs i n) → IsIn m xs
insert_in m n zero xs other h = rw other at h
insert_in m n (suc i) [] other h = rw other at h
insert_in m n (suc i) (x ∷ xs) other h = at (nat_eq m x) (insert_in m n i xs other) h
  where
    at : (b : Bool) → (IsIn m (insert xs i n) → IsIn m xs) → (b || list_any (nat_eq m) (insert xs i n)) ≡ true → (b || list_any (nat_eq m) xs) ≡ true
    at true rest h = refl
    at false rest h = rest h

-- a member is in its list still, or it went
one_list : (a : Answered) (c : ℕ) (o : Option (List ℕ)) (m : ℕ) → (IsIn m (unwrap_or o []) → IsIn m (list_of a c)) → (k : ℕ) → IsIn m (unwrap_or (map.get (put_at a.lists c o) k) []) → IsIn m (list_of a k)
one_list a c o m was k i = at (nat_eq c k) refl (subst (λ xs. IsIn m xs) (list_after a.lists c k o) i)
  where
    at : (b : Bool) → nat_eq c k ≡ b → IsIn m (if b then unwrap_or o [] else list_of a k) → IsIn m (list_of a k)
    at true e i = let same : c ≡ k = grind (arith, nat_tests) in subst (λ z. IsIn m (list_of a z)) same (was i)
    at false e i = i

pub stays_in : (c : Change) (a : Answered) → Fits c a → (m : ℕ) → went c a m ≡ false → (k : ℕ) → IsIn m (list_of (applied c a) k) → IsIn m (list_of a k)
stays_in (sets side s v) a fits m e k i = i
stays_in (opens c) a fits m e k i = one_list a c (Some []) m (λ no. absurd (cc)) k i
stays_in (closes c) a fits m e k i = one_list a c None m (λ no. absurd (cc)) k i
stays_in (adds c) a fits m e k i =
    one_list a c (Some (list_of a c ++ a.next ∷ [])) m
    (λ j. sym (or_false (list_any (nat_eq m) (list_of a c))) ∙ ap (λ b. list_any (nat_eq m) (list_of a c) || (b || false)) (sym e) ∙ sym (list_any-append (nat_eq m) (list_of a c) (a.next ∷ [])) ∙ j) k i
stays_in (takes c closed) a fits m e k i =
    let is = taken a c closed fits in
    one_list a c (if closed then None else Some (without_last (list_of a c))) m
    (λ j. subst (λ xs. IsIn m xs) (sym is.1) (list_any-append (nat_eq m) is.0 ((a.next - 1) ∷ []) ∙ or_left (list_any (nat_eq m) is.0) _ (subst (λ xs. IsIn m xs) is.2 j))) k i
stays_in (removes c n) a fits m e k i = one_list a c (Some (without n (list_of a c))) m (without_in m n (list_of a c)) k i
stays_in (puts_back c place n x) a fits m e k i = one_list a c (Some (insert (list_of a c) place n)) m (insert_in m n place (list_of a c) e) k i

-- ---- what slots have

-- where an entry of another member was put
other_entry : (side : Side) (g : Entry) (ms : Numbered Entry) (k f m : ℕ) (o : Option Entry) → nat_eq m k ≡ false
    → and_then (λ (e : Entry). map.get (of_side side e) f) (if nat_eq m 0 then Some g else map.get (put_at ms k o) m) ≡ and_then (λ (e : Entry). map.get (of_side side e) f) (if nat_eq m 0 then Some g else map.get ms m)
other_entry side g ms k f m o other = ap (λ p. and_then (λ (e : Entry). map.get (of_side side e) f) (if nat_eq m 0 then Some g else p)) (get_put_other ms k m o (nat_eq-comm k m ∙ other))

-- an entry that has nothing, put where there was nothing, changes nothing
pub nothing_put : (side : Side) (g : Entry) (ms : Numbered Entry) (k f m : ℕ) (o : Option Entry) → and_then (λ (e : Entry). map.get (of_side side e) f) o ≡ None → and_then (λ (e : Entry). map.get (of_side side e) f) (map.get ms k) ≡ None
    → and_then (λ (e : Entry). map.get (of_side side e) f) (if nat_eq m 0 then Some g else map.get (put_at ms k o) m) ≡ and_then (λ (e : Entry). map.get (of_side side e) f) (if nat_eq m 0 then Some g else map.get ms m)
nothing_put side g ms k f m o new old = at (nat_eq m 0)
  where
    there : Option Entry → Option Value
    there p = and_then (λ (e : Entry). map.get (of_side side e) f) p

    member : (b : Bool) → nat_eq k m ≡ b → there (cond b o (map.get ms m)) ≡ there (map.get ms m)
    member true e = new ∙ sym (subst (λ n. there (map.get ms n) ≡ None) (same_number k m e) old)
    member false e = refl

    at : (b : Bool) → there (if b then Some g else map.get (put_at ms k o) m) ≡ there (if b then Some g else map.get ms m)
    at true = refl
    at false = ap there (get_put ms k o m) ∙ member (nat_eq k m) refl

abbrev pub IsSet : Change → Type 0
IsSet (sets side s v) = Unit {0}
IsSet _ = ⊥

pub value_stays : (c : Change) (a : Answered) → (IsSet c → ⊥) → (side : Side) (s : Slot) → came c a s.member ≡ false → went c a s.member ≡ false → value_of side (applied c a) s ≡ value_of side a s
value_stays (sets x t v) a other side s e g = absurd (other tt)
value_stays (opens c) a other side s e g = refl
value_stays (closes c) a other side s e g = refl
value_stays (adds c) a other side s e g = other_entry side a.globals a.members a.next s.fact s.member (Some blank) g
value_stays (takes c closed) a other side s e g = other_entry side a.globals a.members (a.next - 1) s.fact s.member None e
value_stays (removes c m) a other side s e g = other_entry side a.globals a.members m s.fact s.member None e
value_stays (puts_back c place m x) a other side s e g = other_entry side a.globals a.members m s.fact s.member (Some x) g
