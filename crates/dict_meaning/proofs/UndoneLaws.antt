-- What a change did, read off the change that undoes it.
use Rattle.std.proofs.Common.{◌≡◌, ℕ, ◌-◌, Bool, true, false, cond, not, ◌&&◌, ◌||◌, if◌then◌else◌, nat_eq, IsTrue, List, [], ◌∷◌, ◌++◌, Option, Some, None, refl, sym, ap, subst, ◌∙◌, arith}
use Rattle.std.specs.Prelude.{insert}
use Rattle.std.specs.List.{list_any}
use Rattle.std.specs.FinMap as map
use Rattle.std.specs.Str.{bytes_eq}
use Rattle.std.proofs.lemmas.Bool.Decides.{nat_tests}
use Rattle.std.proofs.lemmas.Bool.{not-false}
use Rattle.std.proofs.lemmas.Slice.Eq.{bytes_eq-Decides}
use Rattle.fact_values.specs.declared.slot.Slot.{Slot}
use Rattle.fact_values.specs.declared.value.Value.{Value}
use Rattle.dict_source.specs.Facts.{Fact}
use Rattle.dict_source.specs.Dictionary.{Dictionary as Tree}
use Rattle.dict_source.specs.Finding.{fact_at}
use Rattle.three_state.specs.Equality.{value_same}
use Rattle.three_state.proofs.EqualityLaws.{value_same-Decides}
use Rattle.common_lemmas.proofs.Numbers.{same_number}
use Rattle.answers.specs.Answered.{Answered, Entry, blank, list_of, of_side, value_of}
use Rattle.answers.specs.Change.{Change, sets, opens, closes, adds, takes, removes, puts_back, applied, inverse, Fits}
use Rattle.answers.specs.Finite.{Numbered, and_then, put_at}
use Rattle.answers.specs.Lists.{IsNotIn, without, without_last}
use Rattle.answers.specs.WellFormed.{WellFormed}
use Rattle.answers.specs.declared.edit.Side.{Side}
use Rattle.answers.specs.declared.edit.Side.TheVariants.{Answer, Override}
use Rattle.answers.proofs.ChangeLaws.{fits_inverse_undoes}
use Rattle.answers.proofs.FiniteLaws.{get_put, get_put_other, get_put_own}
use Rattle.answers.proofs.FitsLaws.{inverse_fits}
use Rattle.answers.proofs.StandLaws.{entry_stands}
use Rattle.dict_meaning.specs.Accepted.{Accepted, IsAccepted}
use Rattle.dict_meaning.specs.Extension.{Extends, both_same, extends, is_kept}
use Rattle.dict_meaning.specs.Fits.{AnswersFit, is_list}
use Rattle.dict_meaning.specs.Homes.{home}
use Rattle.evaluation.specs.Results.{slot}
use Rattle.dict_meaning.specs.Slots.{slot_same, stands, stands_of}
use Rattle.dict_meaning.specs.Touched.{same_entry}
use Rattle.dict_meaning.specs.Undone.{CameTells, DiffersTells, ExtendedTells, FirstTells, IsUndone, WentTells, came, differs, is_extended, went}
use Rattle.dict_meaning.proofs.ChangedAnswers.{IsSet, add_differs, back_differs, close_differs, nothing_put, open_differs, remove_differs, stays_in, take_differs, value_stays, went_out}
use Rattle.dict_meaning.proofs.ExtensionLaws.{equal_kept, equal_same, kept_equal, list_home, same_option, test_tells_extends}
use Rattle.dict_meaning.proofs.FitChangeLaws.{still_stands}
use Rattle.dict_meaning.proofs.FitStart.{blank_value}
use Rattle.dict_meaning.proofs.SetLaws.{set_is}
use Rattle.dict_meaning.proofs.SlotLaws.{fact_of_standing, slot_same-equal, slot_same-itself}

-- ---- which slots came and went

-- a member that is in no list has no slots
no_slots : (d : Tree) (a : Answered) (s : Slot) → nat_eq s.member 0 ≡ false → ((k : ℕ) → IsNotIn s.member (list_of a k)) → not (stands d a s) ≡ true
no_slots d a s some out = at (fact_at d.facts s.fact)
  where
    once : (b : Bool) → not (if b then nat_eq s.member 0 else list_any (nat_eq s.member) (list_of a (home d s.fact))) ≡ true
    once true = rw some refl
    once false = rw (out (home d s.fact)) refl

    at : (o : Option Fact) → not (stands_of a (home d s.fact) s.member o) ≡ true
    at None = refl
    at (Some f) = once (nat_eq (home d s.fact) 0)

-- a member that went has a number
went_some : (d : Accepted) (undo : Change) (now : Answered) → IsUndone d undo now → (m : ℕ) → went undo now m ≡ true → nat_eq m 0 ≡ false
went_some d (adds c) now u m e = let low = u.after.from_one.low in grind (arith, nat_tests)
went_some d (puts_back c place n x) now u m e = at (nat_eq m 0) refl
  where
    at : (b : Bool) → nat_eq m 0 ≡ b → b ≡ false
    at false z = refl
    at true z =
        let here : n ≡ 0 = grind (arith, nat_tests) in
        absurd (let some : Some x ≡ None = sym (get_put_own now.members n (Some x)) ∙ ap (map.get (applied (puts_back c place n x) now).members) here ∙ u.before.from_one.zero in cc)
went_some d _ now u m e = absurd (cc)

pub went_tells : WentTells
went_tells d undo now u s before = at (went undo now s.member) refl
  where
    at : (b : Bool) → went undo now s.member ≡ b → not (stands d.tree now s) ≡ b
    at true e = no_slots d.tree now s (went_some d undo now u s.member e) (went_out undo now u.after.well u.can s.member e)
    at false e = rw (still_stands d.tree (applied undo now) now s (stays_in undo now u.can s.member e) before) refl

-- what went with the change back is what came
went_back : (undo : Change) (now : Answered) (m : ℕ) → went (inverse undo now) (applied undo now) m ≡ came undo now m
went_back (sets side s v) now m = refl
went_back (opens c) now m = refl
went_back (closes c) now m = refl
went_back (adds c) now m = refl
went_back (takes c closed) now m = refl
went_back (removes c n) now m = refl
went_back (puts_back c place n e) now m = refl

pub came_tells : CameTells
came_tells d undo now u s after =
    let back = fits_inverse_undoes undo now u.after.well u.can in
    let turned : IsUndone d (inverse undo now) (applied undo now) = record {
      can = inverse_fits undo now u.after.well u.can;
      before = subst (AnswersFit d.tree) (sym back) u.after;
      after = u.before;
    } in
    went_tells d (inverse undo now) (applied undo now) turned s (subst (λ a. IsTrue (stands d.tree a s)) (sym back) after) ∙ went_back undo now s.member

-- ---- which entries differ

-- two options that differ
not_same : (o p : Option (List ℕ)) → (o ≡ p → ⊥) → both_same bytes_eq o p ≡ false
not_same o p other = at (both_same bytes_eq o p) refl
  where
    at : (b : Bool) → both_same bytes_eq o p ≡ b → b ≡ false
    at false e = refl
    at true e = absurd (other (same_option bytes_eq (λ x y. (bytes_eq-Decides x y).0) o p e))

list_same : (o : Option (List ℕ)) → both_same bytes_eq o o ≡ true
list_same o = equal_same bytes_eq bytes_eq-Decides o

value_same_if : (v w : Option Value) → v ≡ w → both_same value_same v w ≡ true
value_same_if v w e = subst (λ o. both_same value_same v o ≡ true) e (equal_same value_same value_same-Decides v)

-- a list that was there or is there is that of a Writable collection
list_of_one : (d : Tree) (a b : Answered) → AnswersFit d a → AnswersFit d b → (c : ℕ) → (map.get a.lists c ≡ map.get b.lists c → ⊥) → IsTrue (is_list d c)
list_of_one d a b fa fb c other = at (map.get a.lists c) (map.get b.lists c) refl refl
  where
    at : (o p : Option (List ℕ)) → map.get a.lists c ≡ o → map.get b.lists c ≡ p → IsTrue (is_list d c)
    at (Some xs) p e k = fa.lists c (rw e refl)
    at None (Some ys) e k = fb.lists c (rw k refl)
    at None None e k = absurd (other (e ∙ sym k))

-- the slot of a collection is at no member
at_none : (names : List (List ℕ)) (d : Accepted) → IsAccepted names d → (a : Answered) (c : ℕ) (s : Slot) → IsTrue (is_list d.tree c) → nat_eq c s.fact ≡ true → IsTrue (stands d.tree a s) → nat_eq 0 s.member ≡ true
at_none names d accepted a c s is same there =
    let none : home d.tree s.fact ≡ 0 = ap (home d.tree) (sym (same_number c s.fact same)) ∙ list_home names d accepted c is in
    let here : nat_eq s.member 0 ≡ true = subst (λ h. IsTrue (if nat_eq h 0 then nat_eq s.member 0 else list_any (nat_eq s.member) (list_of a h))) none (fact_of_standing d.tree a s there).2 in
    grind (arith, nat_tests)

-- of three tests of which two hold
first_only : (x y z : Bool) → y ≡ true → z ≡ true → not (x && y && z) ≡ not x
first_only true y z h k = rw (h, k) refl
first_only false y z h k = refl

second_only : (x y z : Bool) → x ≡ true → z ≡ true → not (x && y && z) ≡ not y
second_only x true z h k = rw (h, k) refl
second_only x false z h k = rw h refl

third_only : (x y z : Bool) → x ≡ true → y ≡ true → not (x && y && z) ≡ not z
third_only x y z h k = rw (h, k) refl

-- where one list changed, and nothing else that the slot has
one_list : (names : List (List ℕ)) (d : Accepted) → IsAccepted names d → (a b : Answered) → AnswersFit d.tree a → AnswersFit d.tree b → (c : ℕ) (o : Option (List ℕ)) → a.lists ≡ put_at b.lists c o
    → (map.get a.lists c ≡ map.get b.lists c → ⊥) → (s : Slot) → IsTrue (stands d.tree b s) → ((side : Side) → value_of side a s ≡ value_of side b s) → not (same_entry a b s) ≡ slot_same (slot c 0) s
one_list names d accepted a b fa fb c o lists other s there values =
    third_only _ _ (both_same bytes_eq (map.get a.lists s.fact) (map.get b.lists s.fact)) (value_same_if _ _ (values Answer)) (value_same_if _ _ (values Override)) ∙ at (nat_eq c s.fact) refl
  where
    at : (x : Bool) → nat_eq c s.fact ≡ x → not (both_same bytes_eq (map.get a.lists s.fact) (map.get b.lists s.fact)) ≡ (x && nat_eq 0 s.member)
    at true e =
        let is : c ≡ s.fact = same_number c s.fact e in
        ap not (not_same (map.get a.lists s.fact) (map.get b.lists s.fact) (subst (λ f. map.get a.lists f ≡ map.get b.lists f → ⊥) is other))
        ∙ sym (at_none names d accepted b c s (list_of_one d.tree a b fa fb c other) e there)
    at false e =
        let same : map.get a.lists s.fact ≡ map.get b.lists s.fact = ap (λ (ls : Numbered (List ℕ)). map.get ls s.fact) lists ∙ get_put_other b.lists c s.fact o e in
        ap not (subst (λ p. both_same bytes_eq (map.get a.lists s.fact) p ≡ true) same (list_same (map.get a.lists s.fact)))

-- what a slot has that stood and stands, where nothing was set
still_has : (d : Accepted) (undo : Change) (now : Answered) → IsUndone d undo now → (IsSet undo → ⊥) → (s : Slot) → IsTrue (stands d.tree (applied undo now) s) → IsTrue (stands d.tree now s)
    → (side : Side) → value_of side (applied undo now) s ≡ value_of side now s
still_has d undo now u unset s before after side = value_stays undo now unset side s (sym (came_tells d undo now u s after) ∙ ap not before) (sym (went_tells d undo now u s before) ∙ ap not after)

-- where one value was set
one_value : (now : Answered) (t s : Slot) (side : Side) (v : Option Value) (b : Bool) → slot_same t s ≡ b
    → not (both_same value_same (if b then v else value_of side now s) (value_of side now s)) ≡ (b && not (both_same value_same v (value_of side now t)))
one_value now t s side v true e = ap (λ u. not (both_same value_same v (value_of side now u))) (sym (slot_same-equal t s e))
one_value now t s side v false e = ap not (value_same_if (value_of side now s) (value_of side now s) refl)

pub differs_tells : DiffersTells
differs_tells names d accepted (sets Answer t v) now u s before after =
    let there = entry_stands now t.member u.after.well u.can in
    first_only (both_same value_same (value_of Answer (applied (sets Answer t v) now) s) (value_of Answer now s)) _ _
    (value_same_if _ _ (set_is Answer Override now t s v there)) (list_same (map.get now.lists s.fact))
    ∙ ap (λ o. not (both_same value_same o (value_of Answer now s))) (set_is Answer Answer now t s v there)
    ∙ one_value now t s Answer v (slot_same t s) refl
differs_tells names d accepted (sets Override t v) now u s before after =
    let there = entry_stands now t.member u.after.well u.can in
    second_only _ (both_same value_same (value_of Override (applied (sets Override t v) now) s) (value_of Override now s)) _
    (value_same_if _ _ (set_is Override Answer now t s v there)) (list_same (map.get now.lists s.fact))
    ∙ ap (λ o. not (both_same value_same o (value_of Override now s))) (set_is Override Override now t s v there)
    ∙ one_value now t s Override v (slot_same t s) refl
differs_tells names d accepted (opens c) now u s before after =
    one_list names d accepted (applied (opens c) now) now u.before u.after c (Some []) refl (open_differs now c u.can) s after (λ side. refl)
differs_tells names d accepted (closes c) now u s before after =
    one_list names d accepted (applied (closes c) now) now u.before u.after c None refl (close_differs now c u.can) s after (λ side. refl)
differs_tells names d accepted (adds c) now u s before after =
    one_list names d accepted (applied (adds c) now) now u.before u.after c (Some (list_of now c ++ now.next ∷ [])) refl (add_differs now c) s after
    (still_has d (adds c) now u (λ set. set) s before after)
differs_tells names d accepted (takes c closed) now u s before after =
    one_list names d accepted (applied (takes c closed) now) now u.before u.after c (if closed then None else Some (without_last (list_of now c))) refl (take_differs now c closed u.can) s after
    (still_has d (takes c closed) now u (λ set. set) s before after)
differs_tells names d accepted (removes c m) now u s before after =
    one_list names d accepted (applied (removes c m) now) now u.before u.after c (Some (without m (list_of now c))) refl (remove_differs now c m u.can) s after
    (still_has d (removes c m) now u (λ set. set) s before after)
differs_tells names d accepted (puts_back c place m e) now u s before after =
    one_list names d accepted (applied (puts_back c place m e) now) now u.before u.after c (Some (insert (list_of now c) place m)) refl (back_differs now c place m e u.can) s after
    (still_has d (puts_back c place m e) now u (λ set. set) s before after)

pub first_tells : FirstTells
first_tells names d accepted undo now u s after = ap (λ b. b || not (same_entry (applied undo now) now s)) came_is ∙ at (came undo now s.member) refl
  where
    came_is : not (stands d.tree (applied undo now) s) ≡ came undo now s.member
    came_is = came_tells d undo now u s after

    at : (b : Bool) → came undo now s.member ≡ b → (b || not (same_entry (applied undo now) now s)) ≡ (b || differs undo now s)
    at true e = refl
    at false e = differs_tells names d accepted undo now u s (not-false (stands d.tree (applied undo now) s) (came_is ∙ e)) after

-- ---- whether the answers extend those before

-- a list that was kept didn't change
kept_list : (a b : Answered) → Extends a b → (c : ℕ) (xs : List ℕ) → map.get a.lists c ≡ Some xs → map.get a.lists c ≡ map.get b.lists c
kept_list a b h c xs e = e ∙ sym (h.lists c xs e)

own_value : (side : Side) (now : Answered) (s : Slot) (v : Option Value) (b : Bool) → b ≡ true → value_of side (applied (sets side s v) now) s ≡ (if b then v else value_of side now s) → value_of side (applied (sets side s v) now) s ≡ v
own_value side now s v true e h = h
own_value side now s v false e h = absurd (cc)

shown : (undo : Change) (now : Answered) → Fits undo now → WellFormed now → Extends (applied undo now) now → IsTrue (is_extended undo now)
shown (sets Answer s v) now can well h =
    let own = own_value Answer now s v (slot_same s s) (slot_same-itself s) (set_is Answer Answer now s s v (entry_stands now s.member well can)) in
    equal_kept value_same value_same-Decides v (value_of Answer now s) (λ w e. h.values s w (own ∙ e))
shown (sets Override s v) now can well h =
    let own = own_value Override now s v (slot_same s s) (slot_same-itself s) (set_is Override Override now s s v (entry_stands now s.member well can)) in
    value_same_if v (value_of Override now s) (sym own ∙ sym (h.overrides s))
shown (opens c) now can well h = absurd (open_differs now c can (kept_list _ now h c [] (get_put_own now.lists c (Some []))))
shown (closes c) now can well h = refl
shown (adds c) now can well h = absurd (add_differs now c (kept_list _ now h c (list_of now c ++ now.next ∷ []) (get_put_own now.lists c (Some (list_of now c ++ now.next ∷ [])))))
shown (takes c true) now can well h = refl
shown (takes c false) now can well h =
    absurd (take_differs now c false can (kept_list _ now h c (without_last (list_of now c)) (get_put_own now.lists c (Some (without_last (list_of now c))))))
shown (removes c m) now can well h = absurd (remove_differs now c m can (kept_list _ now h c (without m (list_of now c)) (get_put_own now.lists c (Some (without m (list_of now c))))))
shown (puts_back c place m e) now can well h =
    absurd (back_differs now c place m e can (kept_list _ now h c (insert (list_of now c) place m) (get_put_own now.lists c (Some (insert (list_of now c) place m)))))

-- a collection that was closed
list_opened : (ls : Numbered (List ℕ)) (c k : ℕ) (ms : List ℕ) → map.get (put_at ls c None) k ≡ Some ms → map.get ls k ≡ Some ms
list_opened ls c k ms e = at (nat_eq c k) (sym (get_put {X = List ℕ} ls c None k) ∙ e)
  where
    at : (b : Bool) → cond b None (map.get ls k) ≡ Some ms → map.get ls k ≡ Some ms
    at true e = absurd (cc)
    at false e = e

-- a new member has nothing
new_member : (side : Side) (now : Answered) (c : ℕ) → map.get now.members (now.next - 1) ≡ Some blank → (s : Slot) → value_of side (applied (takes c true) now) s ≡ value_of side now s
new_member side now c new s =
    nothing_put side now.globals now.members (now.next - 1) s.fact s.member None refl (ap (and_then (λ (e : Entry). map.get (of_side side e) s.fact)) new ∙ blank_value side s.fact)

-- the value that was there, or the one at the slot that was set
set_kept : (now : Answered) (s t : Slot) (v : Option Value) → IsTrue (is_kept value_same v (value_of Answer now s)) → (w : Value) (b : Bool) → slot_same s t ≡ b → (if b then v else value_of Answer now t) ≡ Some w → value_of Answer now t ≡ Some w
set_kept now s t v k w true e h = ap (value_of Answer now) (sym (slot_same-equal s t e)) ∙ kept_equal value_same value_same-Decides v (value_of Answer now s) k w h
set_kept now s t v k w false e h = h

set_override : (now : Answered) (s t : Slot) (v : Option Value) → IsTrue (both_same value_same v (value_of Override now s)) → (b : Bool) → slot_same s t ≡ b → (if b then v else value_of Override now t) ≡ value_of Override now t
set_override now s t v k true e = same_option value_same (λ x y. (value_same-Decides x y).0) v (value_of Override now s) k ∙ ap (value_of Override now) (slot_same-equal s t e)
set_override now s t v k false e = refl

tells : (undo : Change) (now : Answered) → Fits undo now → WellFormed now → IsTrue (is_extended undo now) → Extends (applied undo now) now
tells (sets Answer s v) now can well k =
    let there = entry_stands now s.member well can in
    record {
      overrides = λ t. sym (set_is Answer Override now s t v there);
      values = λ t w e. set_kept now s t v k w (slot_same s t) refl (sym (set_is Answer Answer now s t v there) ∙ e);
      lists = λ c ms e. e;
    }
tells (sets Override s v) now can well k =
    let there = entry_stands now s.member well can in
    record {
      overrides = λ t. sym (set_is Override Override now s t v there ∙ set_override now s t v k (slot_same s t) refl);
      values = λ t w e. sym (set_is Override Answer now s t v there) ∙ e;
      lists = λ c ms e. e;
    }
tells (closes c) now can well k = record { overrides = λ t. refl; values = λ t w e. e; lists = list_opened now.lists c }
tells (takes c true) now (xs, at, new, one) well k = record {
  overrides = λ t. sym (new_member Override now c new t);
  values = λ t w e. sym (new_member Answer now c new t) ∙ e;
  lists = list_opened now.lists c;
}
tells (takes c false) now can well k = absurd (cc)
tells _ now can well k = absurd (cc)

same_test : (p q : Bool) → (IsTrue p → IsTrue q) → (IsTrue q → IsTrue p) → p ≡ q
same_test true q f g = sym (f refl)
same_test false true f g = g refl
same_test false false f g = refl

pub extended_tells : ExtendedTells
extended_tells names d accepted undo now u =
    let test = test_tells_extends names d accepted (applied undo now) now u.before u.after in
    same_test (extends d.tree (applied undo now) now) (is_extended undo now)
    (λ h. shown undo now u.can u.after.well (test.0 h))
    (λ k. test.1 (tells undo now u.can u.after.well k))
