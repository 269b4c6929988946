-- Collections opened one after another, each with its members.
use Rattle.std.proofs.Common.{◌≡◌, ◌<◌, ◌≤◌, ◌&&◌, ◌||◌, ◌==◌, ℕ, Bool, true, false, cond, not, List, [], ◌∷◌, length, Option, Some, None, refl, sym, ap, ◌∙◌, subst, arith, slice_index_or}
use Rattle.std.specs.Prelude.{nat_eq, nat_le, unwrap_or, IsSome, if◌then◌else◌}
use Rattle.std.specs.List.{All, list_any, list_all}
use Rattle.std.specs.Map.{lookup}
use Rattle.std.specs.FinMap as map
use Rattle.std.specs.Ordering.{nat_cmp}
use Rattle.std.proofs.lemmas.Bool.{and_parts, both_ways, false_from_ne_true, not-true}
use Rattle.std.proofs.lemmas.Bool.Decides.{nat_tests}
use Rattle.std.proofs.lemmas.List.Elements.{All-head, All-tail, All-cons}
use Rattle.common_lemmas.proofs.Lists.{any_number}
use Rattle.common_lemmas.proofs.Numbers.{same_number, nat_eq-comm}
use Rattle.fact_values.specs.Members.{is_member, are_distinct, IsMemberList}
use Rattle.answers.specs.Finite.{Numbered, put_at, and_then}
use Rattle.answers.specs.Lists.{IsIn, IsNotIn, Once}
use Rattle.answers.specs.Answered.{Entry, Answered, blank, start_at, list_of}
use Rattle.answers.specs.WellFormed.{WellFormed, FromOne}
use Rattle.answers.specs.GivenLists.{IsAfter, IsWithout, IsBelow, FactsRise, AreApart, AreBelow, AreMemberLists, is_in_some, IsOfLists}
use Rattle.answers.specs.OpenedLists.{all_blank, with_list, with_all, IsFresh, MayOpen}
use Rattle.answers.proofs.ChangeLaws.{answered_same}
use Rattle.answers.proofs.FiniteLaws.{same, get_put, get_put_other, get_map_of}
use Rattle.answers.proofs.StandLaws.{none_some, pick}
use Rattle.answers.proofs.Start.{start_well, start_from_one}
use Rattle.answers.proofs.WellLaws.{well_step, listed_elsewhere}

-- ---- the members of a value's list
once_of : (ys : List ℕ) → are_distinct ys ≡ true → Once ys
once_of [] h = tt
once_of (y ∷ ys) h =
    let parts : (not (list_any (λ other. other == y) ys) ≡ true) × (are_distinct ys ≡ true) = and_parts _ _ h in
    (sym (any_number y ys) ∙ not-true _ parts.0, once_of ys parts.1)

zero_out : (ys : List ℕ) → list_all is_member ys ≡ true → IsNotIn 0 ys
zero_out [] h = refl
zero_out (y ∷ ys) h =
    let parts : (is_member y ≡ true) × (list_all is_member ys ≡ true) = and_parts _ _ h in
    let low : (nat_le 1 y ≡ true) × (nat_le y 1000000 ≡ true) = and_parts _ _ parts.0 in
    let other : nat_eq 0 y ≡ false = grind (arith, nat_tests) in
    rw (other, zero_out ys parts.1) refl

record MemberList (ys : List ℕ) : Type 0 where
  short : length ys ≤ 100
  once : Once ys
  no_zero : IsNotIn 0 ys

member_list : (ys : List ℕ) → IsMemberList ys → MemberList ys
member_list ys h =
    let parts : (nat_le (length ys) 100 ≡ true) × ((list_all is_member ys && are_distinct ys) ≡ true) = and_parts _ _ h in
    let rest : (list_all is_member ys ≡ true) × (are_distinct ys ≡ true) = and_parts _ _ parts.1 in
    let le : nat_le (length ys) 100 ≡ true = parts.0 in
    record { short = grind (arith, nat_tests); once = once_of ys rest.1; no_zero = zero_out ys rest.0 }

-- ---- blank entries
in_or : (b c : Bool) (o : Option Entry) → (if c then Some blank else cond b (Some blank) o) ≡ (if b || c then Some blank else o)
in_or true true o = refl
in_or true false o = refl
in_or false c o = refl

get_blank : (ys : List ℕ) (ms : Numbered Entry) (k : ℕ) → map.get (all_blank ys ms) k ≡ (if list_any (nat_eq k) ys then Some blank else map.get ms k)
get_blank [] ms k = refl
get_blank (y ∷ ys) ms k =
    get_blank ys (put_at ms y (Some blank)) k
    ∙ ap (λ o. if list_any (nat_eq k) ys then Some blank else o) (get_put ms y (Some blank) k ∙ ap (λ b. cond b (Some blank) (map.get ms k)) (nat_eq-comm y k))
    ∙ in_or (nat_eq k y) (list_any (nat_eq k) ys) (map.get ms k)

blank_in : (ys : List ℕ) (ms : Numbered Entry) (k : ℕ) → IsIn k ys → IsSome (map.get (all_blank ys ms) k)
blank_in ys ms k h = rw (get_blank ys ms k) (rw h refl)

blank_out : (ys : List ℕ) (ms : Numbered Entry) (k : ℕ) → IsNotIn k ys → map.get (all_blank ys ms) k ≡ map.get ms k
blank_out ys ms k h = get_blank ys ms k ∙ ap (λ b. if b then Some blank else map.get ms k) h

blank_stays : (ys : List ℕ) (ms : Numbered Entry) (k : ℕ) → IsSome (map.get ms k) → IsSome (map.get (all_blank ys ms) k)
blank_stays ys ms k h = rw (get_blank ys ms k) (pick (λ o. IsSome o) (list_any (nat_eq k) ys) (Some blank) (map.get ms k) (λ _. refl) (λ _. h))

above_out : (ys : List ℕ) (n k : ℕ) → ((m : ℕ) → IsIn m ys → m < n) → n ≤ k → IsNotIn k ys
above_out ys n k below le = false_from_ne_true _ (λ h. let less : k < n = below k h in absurd (omega arith))

apart_out : (xs ys : List ℕ) (m : ℕ) → ((k : ℕ) → IsIn k xs → IsNotIn k ys) → IsIn m ys → IsNotIn m xs
apart_out xs ys m apart h = false_from_ne_true _ (λ e. both_ways _ (apart m e) h)

-- ---- one collection more
head_fresh : (e : ℕ × List ℕ) (es : List (ℕ × List ℕ)) (a : Answered) → MayOpen (e ∷ es) a → IsFresh a e
head_fresh e es a o = All-head (IsFresh a) e es o.fresh

open_well : (e : ℕ × List ℕ) (es : List (ℕ × List ℕ)) (a : Answered) → MemberList e.1 → MayOpen (e ∷ es) a → WellFormed (with_list e a)
open_well e es a ms o =
    let w = o.well in
    let closed : list_of a e.0 ≡ [] = ap (λ p. unwrap_or p []) (head_fresh e es a o).0 in
    well_step a a.next e.0 (Some e.1) (all_blank e.1 a.members) a.globals w (record {
      high = w.high;
      below = λ k le. blank_out e.1 a.members k (above_out e.1 a.next k (All-head (IsBelow a.next) e es o.below) le) ∙ w.below k le;
      short = ms.short;
      once = ms.once;
      listed = λ k h. blank_in e.1 a.members k h;
      others = λ d k _ h. blank_stays e.1 a.members k (w.listed d k h);
      apart = λ d k _ h h'. none_some (map.get a.members k) ((head_fresh e es a o).1 k h) (w.listed d k h');
      only = λ k some out. listed_elsewhere a e.0 k e.1 w (subst (λ p. IsSome p) (blank_out e.1 a.members k out) some) (λ h. let no : IsIn k [] = subst (λ xs. IsIn k xs) closed h in absurd cc) out;
    })

fresh_step : (e : ℕ × List ℕ) (es : List (ℕ × List ℕ)) (a : Answered) → All (IsAfter e.0) es → All (IsWithout e.1) es → All (IsFresh a) es → All (IsFresh (with_list e a)) es
fresh_step e [] a less apart fresh = λ k d h. absurd (omega arith)
fresh_step e (f ∷ fs) a less apart fresh =
    let lower : e.0 < f.0 = All-head (IsAfter e.0) f fs less in
    let new : IsFresh a f = All-head (IsFresh a) f fs fresh in
    let other : nat_eq e.0 f.0 ≡ false = grind (arith, nat_tests) in
    All-cons (IsFresh (with_list e a)) f fs
    (get_put_other a.lists e.0 f.0 (Some e.1) other ∙ new.0, λ m h. blank_out e.1 a.members m (apart_out e.1 f.1 m (All-head (IsWithout e.1) f fs apart) h) ∙ new.1 m h)
    (fresh_step e fs a (All-tail (IsAfter e.0) f fs less) (All-tail (IsWithout e.1) f fs apart) (All-tail (IsFresh a) f fs fresh))

pub open_step : (e : ℕ × List ℕ) (es : List (ℕ × List ℕ)) (a : Answered) → IsMemberList e.1 → MayOpen (e ∷ es) a → MayOpen es (with_list e a)
open_step e es a is o =
    let ms = member_list e.1 is in
    record {
      rise = o.rise.1;
      separate = o.separate.1;
      below = All-tail (IsBelow a.next) e es o.below;
      fresh = fresh_step e es a o.rise.0 o.separate.0 (All-tail (IsFresh a) e es o.fresh);
      well = open_well e es a ms o;
      from_one = record { low = o.from_one.low; zero = blank_out e.1 a.members 0 ms.no_zero ∙ o.from_one.zero };
    }

-- nothing is open at the start
pub opening_start : (es : List (ℕ × List ℕ)) (n : ℕ) → FactsRise es → AreApart es → AreBelow n es → 1 ≤ n → n ≤ 1000001 → MayOpen es (start_at n)
opening_start es n rise apart below low high = record {
  rise = rise;
  separate = apart;
  below = below;
  fresh = λ k d h. (map.get-empty nat_cmp (slice_index_or es k d).0, λ m _. map.get-empty nat_cmp m);
  well = start_well n high;
  from_one = start_from_one n low;
}

all_opened : (es : List (ℕ × List ℕ)) (a : Answered) → AreMemberLists es → MayOpen es a → MayOpen [] (with_all es a)
all_opened [] a members o = o
all_opened (e ∷ es) a members o = all_opened es (with_list e a) (All-tail (λ d. IsMemberList d.1) e es members) (open_step e es a (All-head (λ d. IsMemberList d.1) e es members) o)

-- ---- all of them
or_else : {X : Type 0} → Option X → Option X → Option X
or_else (Some x) o = Some x
or_else None o = o

absent_above : (c : ℕ) (es : List (ℕ × List ℕ)) → All (IsAfter c) es → lookup (nat_eq c) es ≡ None
absent_above c [] less = refl
absent_above c (f ∷ fs) less =
    let lower : c < f.0 = All-head (IsAfter c) f fs less in
    let other : nat_eq c f.0 ≡ false = grind (arith, nat_tests) in
    rw other (absent_above c fs (All-tail (IsAfter c) f fs less))

lists_all : (es : List (ℕ × List ℕ)) (a : Answered) (q : ℕ) → FactsRise es → map.get (with_all es a).lists q ≡ or_else (lookup (nat_eq q) es) (map.get a.lists q)
unfolding or_else
lists_all [] a q rise = refl
lists_all (e ∷ es) a q rise = lists_all es (with_list e a) q rise.1 ∙ ap (or_else (lookup (nat_eq q) es)) (get_put a.lists e.0 (Some e.1) q ∙ ap (λ b. cond b (Some e.1) (map.get a.lists q)) (nat_eq-comm e.0 q)) ∙ by (nat_eq q e.0) refl
  where
    none : nat_eq q e.0 ≡ true → lookup (nat_eq q) es ≡ None
    none h = let is : q ≡ e.0 = same_number q e.0 h in ap (λ k. lookup (nat_eq k) es) is ∙ absent_above e.0 es rise.0

    by : (b : Bool) → nat_eq q e.0 ≡ b → or_else (lookup (nat_eq q) es) (cond b (Some e.1) (map.get a.lists q)) ≡ or_else (cond b (Some e.1) (lookup (nat_eq q) es)) (map.get a.lists q)
    by true h = ap (λ o. or_else o (Some e.1)) (none h)
    by false h = refl

members_all : (es : List (ℕ × List ℕ)) (a : Answered) (m : ℕ) → map.get (with_all es a).members m ≡ (if is_in_some m es then Some blank else map.get a.members m)
members_all [] a m = refl
members_all (e ∷ es) a m = members_all es (with_list e a) m ∙ ap (λ o. if is_in_some m es then Some blank else o) (get_blank e.1 a.members m) ∙ in_or (list_any (nat_eq m) e.1) (is_in_some m es) (map.get a.members m)

next_all : (es : List (ℕ × List ℕ)) (a : Answered) → (with_all es a).next ≡ a.next
next_all [] a = refl
next_all (e ∷ es) a = next_all es (with_list e a)

globals_all : (es : List (ℕ × List ℕ)) (a : Answered) → (with_all es a).globals ≡ a.globals
globals_all [] a = refl
globals_all (e ∷ es) a = globals_all es (with_list e a)

pub of_lists : (es : List (ℕ × List ℕ)) (n : ℕ) → FactsRise es → IsOfLists es n (with_all es (start_at n))
unfolding or_else
of_lists es n rise = record {
  number = next_all es (start_at n);
  lists_are = same _ _ (λ q. lists_all es (start_at n) q rise ∙ ap (or_else (lookup (nat_eq q) es)) (map.get-empty nat_cmp q) ∙ found (lookup (nat_eq q) es) ∙ sym (get_map_of (λ (xs : List ℕ). Some xs) es q));
  no_globals = globals_all es (start_at n);
  no_entries = λ m. members_all es (start_at n) m ∙ ap (λ (o : Option Entry). if is_in_some m es then Some blank else o) (map.get-empty nat_cmp m);
}
  where
    found : (o : Option (List ℕ)) → or_else o None ≡ and_then (λ (xs : List ℕ). Some xs) o
    found (Some xs) = refl
    found None = refl

-- given lists determine the answers, and these are well formed
pub given_well : (es : List (ℕ × List ℕ)) (n : ℕ) (a : Answered) → FactsRise es → AreApart es → AreBelow n es → AreMemberLists es → 1 ≤ n → n ≤ 1000001 → IsOfLists es n a → WellFormed a × FromOne a
given_well es n a rise apart below members low high h =
    let w = of_lists es n rise in
    let is : a ≡ with_all es (start_at n) = answered_same a (with_all es (start_at n)) (h.number ∙ sym w.number) (h.lists_are ∙ sym w.lists_are) (h.no_globals ∙ sym w.no_globals) (same _ _ (λ m. h.no_entries m ∙ sym (w.no_entries m))) in
    let o : MayOpen [] (with_all es (start_at n)) = all_opened es (start_at n) members (opening_start es n rise apart below low high) in
    rw is (o.well, o.from_one)
