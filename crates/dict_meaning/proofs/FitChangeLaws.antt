-- After an allowed change that can be made, answers that fitted still fit.
use Rattle.std.proofs.Common.{◌≡◌, ◌⊎◌, ℕ, Bool, true, false, cond, ◌&&◌, if◌then◌else◌, nat_eq, IsTrue, List, [], ◌∷◌, ◌++◌, Option, Some, None, unwrap_or, inl, inr, refl, sym, ap, subst, ◌∙◌, arith}
use Rattle.std.specs.Prelude.{IsSome}
use Rattle.std.specs.FinMap as map
use Rattle.std.specs.List.{list_any}
use Rattle.std.proofs.lemmas.Bool.Decides.{nat_tests}
use Rattle.std.proofs.lemmas.List.Folds.{list_any-append}
use Rattle.fact_values.specs.declared.slot.Slot.{Slot}
use Rattle.fact_values.specs.declared.value.Value.{Value}
use Rattle.dict_source.specs.Facts.{Fact}
use Rattle.dict_source.specs.Dictionary.{Dictionary as Tree}
use Rattle.dict_source.specs.Finding.{fact_at}
use Rattle.common_lemmas.proofs.Bools.{and_intro, both, or_left}
use Rattle.common_lemmas.proofs.Numbers.{same_number}
use Rattle.answers.specs.Answered.{Answered, Entry, blank, entry, list_of, of_side, value_of}
use Rattle.answers.specs.Change.{Change, sets, opens, closes, adds, takes as takes_newest, removes, puts_back, applied, Fits}
use Rattle.answers.specs.Finite.{Numbered, and_then, put_at}
use Rattle.answers.specs.Lists.{IsIn, without}
use Rattle.answers.specs.WellFormed.{FromOne, WellFormed}
use Rattle.answers.specs.declared.edit.Side.{Side}
use Rattle.answers.proofs.FiniteLaws.{get_put}
use Rattle.answers.proofs.StandLaws.{entry_stands, list_after, list_there}
use Rattle.answers.proofs.WellLaws.{any_kept, applied_from_one, applied_well}
use Rattle.dict_meaning.specs.Accepted.{Accepted, IsAccepted}
use Rattle.dict_meaning.specs.Allowed.{IsAllowed}
use Rattle.dict_meaning.specs.Fits.{AnswersFit, IsOfFact, is_list, takes}
use Rattle.dict_meaning.specs.Homes.{home}
use Rattle.dict_meaning.specs.Slots.{is_member, stands, stands_of}
use Rattle.dict_meaning.proofs.ChangedAnswers.{nothing_put}
use Rattle.dict_meaning.proofs.FitStart.{blank_value}
use Rattle.dict_meaning.proofs.MemberLaws.{zero_is_none}
use Rattle.dict_meaning.proofs.MemberlessTypes.{still_of_fact}
use Rattle.dict_meaning.proofs.SetLaws.{set_has}

-- ---- what fits after a change

-- the slot may have the value
abbrev MayHave : Tree → Answered → Side → Slot → Value → Type 0
MayHave d a side s v = IsTrue (stands d a s && takes side d s.fact) × IsOfFact d a s.fact v

-- the slot had the value, and still stands if it stood; or it may have it
abbrev HadOrMay : Tree → Answered → Answered → Side → Slot → Value → Type 0
HadOrMay d a b side s v = ((value_of side a s ≡ Some v) × (IsTrue (stands d a s) → IsTrue (stands d b s))) ⊎ MayHave d b side s v

may_have : (names : List (List ℕ)) (d : Accepted) → IsAccepted names d → (a b : Answered) → AnswersFit d.tree a → (side : Side) (s : Slot) (v : Value) → HadOrMay d.tree a b side s v → MayHave d.tree b side s v
may_have names d accepted a b fits side s v (inr may) = may
may_have names d accepted a b fits side s v (inl had) =
    let was = both (stands d.tree a s) (takes side d.tree s.fact) (fits.placed side s (rw had.0 refl)) in (
      and_intro (stands d.tree b s) (takes side d.tree s.fact) (had.1 was.0) was.1,
      still_of_fact names d accepted a b side s.fact v was.1 (fits.typed side s v had.0),
    )

fits_after : (names : List (List ℕ)) (d : Accepted) → IsAccepted names d → (a b : Answered) → AnswersFit d.tree a → WellFormed b → FromOne b
    → ((c : ℕ) → IsSome (map.get b.lists c) → IsTrue (is_list d.tree c))
    → ((side : Side) (s : Slot) (v : Value) → value_of side b s ≡ Some v → HadOrMay d.tree a b side s v) → AnswersFit d.tree b
fits_after names d accepted a b fits well from_one lists values = record {
  well = well;
  from_one = from_one;
  lists = lists;
  placed = λ side s some. at side s (value_of side b s) refl some;
  typed = λ side s v e. (may side s v e).1;
}
  where
    may : (side : Side) (s : Slot) (v : Value) → value_of side b s ≡ Some v → MayHave d.tree b side s v
    may side s v e = may_have names d accepted a b fits side s v (values side s v e)

    at : (side : Side) (s : Slot) (o : Option Value) → value_of side b s ≡ o → IsSome o → IsTrue (stands d.tree b s && takes side d.tree s.fact)
    at side s None e some = absurd (cc)
    at side s (Some v) e some = (may side s v e).0

-- ---- one list changes

-- it is that of a Writable collection
lists_put : (d : Tree) (a : Answered) → AnswersFit d a → (c : ℕ) (o : Option (List ℕ)) → IsTrue (is_list d c) → (k : ℕ) → IsSome (map.get (put_at a.lists c o) k) → IsTrue (is_list d k)
lists_put d a fits c o is k some = at (nat_eq c k) refl (subst (λ (p : Option (List ℕ)). IsSome p) (get_put a.lists c o k) some)
  where
    at : (b : Bool) → nat_eq c k ≡ b → IsSome (cond b o (map.get a.lists k)) → IsTrue (is_list d k)
    at true e some = subst (λ (n : ℕ). IsTrue (is_list d n)) (same_number c k e) is
    at false e some = fits.lists k some

-- a member of the answers a that stays in that list is still a member
still_member : (a : Answered) (c : ℕ) (ys : List ℕ) (m : ℕ) → (IsIn m (list_of a c) → IsIn m ys) → (k : ℕ) → IsTrue (is_member a k m) → IsIn m (unwrap_or (map.get (put_at a.lists c (Some ys)) k) [])
still_member a c ys m stays k i = subst (λ (xs : List ℕ). IsIn m xs) (sym (list_after a.lists c k (Some ys))) (at (nat_eq c k) refl)
  where
    at : (b : Bool) → nat_eq c k ≡ b → IsIn m (if b then ys else list_of a k)
    at true e = stays (subst (λ (n : ℕ). IsIn m (list_of a n)) (sym (same_number c k e)) i)
    at false e = i

-- a slot at a member that stays still stands
pub still_stands : (d : Tree) (a b : Answered) (s : Slot) → ((k : ℕ) → IsTrue (is_member a k s.member) → IsTrue (is_member b k s.member)) → IsTrue (stands d a s) → IsTrue (stands d b s)
still_stands d a b s stays h = at (fact_at d.facts s.fact) h
  where
    once : (o : Bool) → IsTrue (if o then nat_eq s.member 0 else is_member a (home d s.fact) s.member) → IsTrue (if o then nat_eq s.member 0 else is_member b (home d s.fact) s.member)
    once true h = h
    once false h = stays (home d s.fact) h

    at : (o : Option Fact) → IsTrue (stands_of a (home d s.fact) s.member o) → IsTrue (stands_of b (home d s.fact) s.member o)
    at None h = h
    at (Some f) h = once (nat_eq (home d s.fact) 0) h

-- ---- an answer or an override

given_value : (d : Accepted) (a : Answered) (side : Side) (s : Slot) (v : Option Value) → IsAllowed d a (sets side s v) → (w : Value) → v ≡ Some w → MayHave d.tree a side s w
given_value d a side s None allowed w e = absurd (cc)
given_value d a side s (Some v) allowed w e = let same : v ≡ w = cc in subst (λ (x : Value). MayHave d.tree a side s x) same allowed

set_value : (d : Accepted) (a : Answered) (side : Side) (s : Slot) (v : Option Value) → IsSome (entry a s.member) → IsAllowed d a (sets side s v) → (other : Side) (t : Slot) (w : Value) → value_of other (applied (sets side s v) a) t ≡ Some w
    → HadOrMay d.tree a (applied (sets side s v) a) other t w
set_value d a side s v there allowed other t w h = at (set_has side other a s t v w there h)
  where
    at : (value_of other a t ≡ Some w) ⊎ ((side ≡ other) × (s ≡ t) × (v ≡ Some w)) → HadOrMay d.tree a (applied (sets side s v) a) other t w
    at (inl had) = inl (had, λ i. i)
    at (inr (sides, slots, is)) =
        inr (subst (λ (q : Side). MayHave d.tree a q t w) sides (subst (λ (u : Slot). MayHave d.tree a side u w) slots (given_value d a side s v allowed w is)))

-- ---- a new member

-- its slots have nothing
add_value : (a : Answered) → WellFormed a → (c : ℕ) (side : Side) (s : Slot) → value_of side (applied (adds c) a) s ≡ value_of side a s
add_value a well c side s =
    nothing_put side a.globals a.members a.next s.fact s.member (Some blank) (blank_value side s.fact) (ap (and_then (λ (e : Entry). map.get (of_side side e) s.fact)) (well.below a.next (omega arith)))

-- ---- a member less

not_zero : (d : Tree) (a : Answered) → AnswersFit d a → (c m : ℕ) → IsIn m (list_of a c) → nat_eq m 0 ≡ false
not_zero d a fits c m i = at (nat_eq m 0) refl
  where
    at : (b : Bool) → nat_eq m 0 ≡ b → b ≡ false
    at true e = absurd (let there : is_member a c 0 ≡ true = subst (λ (n : ℕ). is_member a c n ≡ true) (same_number m 0 e) i in let out : is_member a c 0 ≡ false = zero_is_none d a fits c in cc)
    at false e = refl

-- what a slot has it had before, and it is at another member
remove_value : (a : Answered) (c m : ℕ) → nat_eq m 0 ≡ false → (side : Side) (s : Slot) (v : Value) → value_of side (applied (removes c m) a) s ≡ Some v → (value_of side a s ≡ Some v) × (nat_eq s.member m ≡ false)
remove_value a c m from side s v h = at (nat_eq s.member 0) refl h
  where
    member : (b : Bool) → nat_eq m s.member ≡ b → and_then (λ (e : Entry). map.get (of_side side e) s.fact) (cond b None (map.get a.members s.member)) ≡ Some v
        → (and_then (λ (e : Entry). map.get (of_side side e) s.fact) (map.get a.members s.member) ≡ Some v) × (nat_eq s.member m ≡ false)
    member true e k = absurd (cc)
    member false e k = (k, grind (arith, nat_tests))

    at : (b : Bool) → nat_eq s.member 0 ≡ b → and_then (λ (e : Entry). map.get (of_side side e) s.fact) (if b then Some a.globals else map.get (put_at a.members m None) s.member) ≡ Some v
        → (and_then (λ (e : Entry). map.get (of_side side e) s.fact) (if b then Some a.globals else map.get a.members s.member) ≡ Some v) × (nat_eq s.member m ≡ false)
    at true e k = (k, grind (arith, nat_tests))
    at false e k = member (nat_eq m s.member) refl (sym (ap (and_then (λ (e : Entry). map.get (of_side side e) s.fact)) (get_put {X = Entry} a.members m None s.member)) ∙ k)

-- ---- each change

-- where one list changes, so that slots have what they had, and its members with them
after_list : (names : List (List ℕ)) (d : Accepted) → IsAccepted names d → (a : Answered) (c : ℕ) (ys : List ℕ) (n : ℕ) (ms : Numbered Entry) → AnswersFit d.tree a → IsTrue (is_list d.tree c)
    → WellFormed (record { next = n; lists = put_at a.lists c (Some ys); globals = a.globals; members = ms }) → FromOne (record { next = n; lists = put_at a.lists c (Some ys); globals = a.globals; members = ms })
    → ((side : Side) (s : Slot) (v : Value) → value_of side (record { next = n; lists = put_at a.lists c (Some ys); globals = a.globals; members = ms }) s ≡ Some v
    → (value_of side a s ≡ Some v) × (IsIn s.member (list_of a c) → IsIn s.member ys))
    → AnswersFit d.tree (record { next = n; lists = put_at a.lists c (Some ys); globals = a.globals; members = ms })
after_list names d accepted a c ys n ms fits is well from_one had =
    let b : Answered = record { next = n; lists = put_at a.lists c (Some ys); globals = a.globals; members = ms } in
    fits_after names d accepted a b fits well from_one (lists_put d.tree a fits c (Some ys) is)
    (λ side s v e. let h = had side s v e in inl (h.0, still_stands d.tree a b s (still_member a c ys s.member h.1)))

pub allowed_changes_fit : (names : List (List ℕ)) (d : Accepted) → IsAccepted names d → (a : Answered) (c : Change) → AnswersFit d.tree a → Fits c a → IsAllowed d a c → AnswersFit d.tree (applied c a)
allowed_changes_fit names d accepted a (sets side s v) fits can allowed =
    fits_after names d accepted a (applied (sets side s v) a) fits
    (applied_well (sets side s v) a fits.well can) (applied_from_one (sets side s v) a fits.from_one can tt)
    fits.lists (set_value d a side s v (entry_stands a s.member fits.well can) allowed)
allowed_changes_fit names d accepted a (opens c) fits can allowed =
    after_list names d accepted a c [] a.next a.members fits allowed
    (applied_well (opens c) a fits.well can) (applied_from_one (opens c) a fits.from_one can tt)
    (λ side s v e. (e, subst (λ (xs : List ℕ). IsIn s.member xs) (ap (λ (o : Option (List ℕ)). unwrap_or o []) can)))
allowed_changes_fit names d accepted a (closes c) fits can allowed = absurd allowed
allowed_changes_fit names d accepted a (adds c) fits can allowed =
    after_list names d accepted a c (list_of a c ++ a.next ∷ []) (applied (adds c) a).next (applied (adds c) a).members fits allowed
    (applied_well (adds c) a fits.well can) (applied_from_one (adds c) a fits.from_one can tt)
    (λ side s v e. (sym (add_value a fits.well c side s) ∙ e, λ i. list_any-append (nat_eq s.member) (list_of a c) (a.next ∷ []) ∙ or_left (is_member a c s.member) (list_any (nat_eq s.member) (a.next ∷ [])) i))
allowed_changes_fit names d accepted a (takes_newest c closed) fits can allowed = absurd allowed
allowed_changes_fit names d accepted a (removes c m) fits can allowed =
    after_list names d accepted a c (without m (list_of a c)) a.next (put_at a.members m None) fits
    (fits.lists c (rw (list_there a c m can) refl))
    (applied_well (removes c m) a fits.well can) (applied_from_one (removes c m) a fits.from_one can tt)
    (λ side s v e. let had = remove_value a c m (not_zero d.tree a fits c m can) side s v e in (had.0, any_kept s.member m (list_of a c) had.1))
allowed_changes_fit names d accepted a (puts_back c place m e) fits can allowed = absurd allowed
