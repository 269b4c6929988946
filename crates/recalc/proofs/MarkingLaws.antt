-- The loop over the slots that wait does exactly the touched ones.
use Rattle.std.proofs.Common.{◌≡◌, ℕ, zero, suc, ◌<◌, ◌≤◌, Bool, true, false, ◌&&◌, ◌||◌, not, IsTrue, List, [], ◌∷◌, ◌++◌, refl, sym, ap, ◌∙◌, arith}
use Rattle.std.proofs.lemmas.List.Folds.{list_any-append}
use Rattle.common_lemmas.proofs.Bools.{and_intro, both_left, both_right, neither_or, not_true, or_false, or_left, or_neither, or_right, same_test}
use Rattle.fact_values.specs.declared.slot.Slot.{Slot}
use Rattle.dict_meaning.specs.Slots.{slot_same}
use Rattle.dict_meaning.proofs.SlotLaws.{slot_same-equal}
use Rattle.recalc.specs.Spread.{Spread, IsSpread, is_fed_by, is_in, is_touched}
use Rattle.recalc.specs.Marking.{IsLeast, IsMarked, IsNext}
use Rattle.recalc.specs.Laws.{DoneAreTouched, LowerSettle, StartMarks, TurnMarks}
use Rattle.recalc.proofs.SlotLists.{either, fails_in, in_push, none_in, once_push, passes_in, some_in}

-- ---- what is of lower rank than all that waits is settled

and_none : (a b : Bool) → (a ≡ true → b ≡ false) → (a && b) ≡ false
and_none true b h = h refl
and_none false b h = refl

pub none_least : (c : Spread) (dirty : Slot → Bool) (n : ℕ) (t : Slot) → IsLeast c dirty n → c.rank t < n → dirty t ≡ false
none_least c dirty n t least l = at (dirty t) refl
  where
    at : (x : Bool) → dirty t ≡ x → x ≡ false
    at false e = refl
    at true e = absurd (let h : n ≤ c.rank t = least t e in omega arith)

-- no slot feeds s that moved, where those of lower rank are settled
feeder :
    (c : Spread) → IsSpread c → (done : List Slot) (dirty : Slot → Bool) (s t : Slot)
    → IsTrue (c.stands t) → is_fed_by c done s ≡ false → IsLeast c dirty (c.rank s)
    → (is_in done t ≡ false → dirty t ≡ false → c.rank t < c.rank s → is_touched c t ≡ false)
    → (c.feeds t s && c.moved t) ≡ false
feeder c laws done dirty s t there fed least ih = and_none (c.feeds t s) (c.moved t) (λ f. at f (is_in done t) refl)
  where
    at : c.feeds t s ≡ true → (x : Bool) → is_in done t ≡ x → c.moved t ≡ false
    at f true e = let h : (c.feeds t s && c.moved t) ≡ false = fails_in (λ u. c.feeds u s && c.moved u) done t e fed in rw f at h
    at f false e = let l = laws.rising t s f in laws.keeps t there (ih e (none_least c dirty (c.rank s) t least l) l)

settled_below :
    (c : Spread) → IsSpread c → (done : List Slot) (dirty : Slot → Bool) → IsMarked c done dirty → (n : ℕ) (s : Slot) → c.rank s < n
    → IsTrue (c.stands s) → is_in done s ≡ false → dirty s ≡ false → IsLeast c dirty (c.rank s) → is_touched c s ≡ false
settled_below c laws done dirty m zero s l there new off least = absurd (omega arith)
settled_below c laws done dirty m (suc n) s l there new off least =
    let w : (c.first s || is_fed_by c done s) ≡ false = sym (m.waiting s there new) ∙ off in
    let apart = or_neither (c.first s) (is_fed_by c done s) w in
    neither_or (c.first s) (is_fed_by c c.standing s) apart.0
    (none_in (λ t. c.feeds t s && c.moved t) c.standing (λ t i.
    let st : c.stands t ≡ true = sym (laws.listed t) ∙ i in
    feeder c laws done dirty s t st apart.1 least
    (λ e o k. settled_below c laws done dirty m n t (omega arith) st e o (λ v on. let h : c.rank s ≤ c.rank v = least v on in omega arith))))

pub lower_settle : LowerSettle
lower_settle c laws done dirty m s = settled_below c laws done dirty m (suc (c.rank s)) s (omega arith)

-- ---- the end

pub done_are_touched : DoneAreTouched
done_are_touched c laws done dirty m none s =
    same_test (is_in done s) (c.stands s && is_touched c s)
    (λ i. and_intro (c.stands s) (is_touched c s) (m.right s i).0 (m.right s i).1)
    (λ t. at (is_in done s) refl (both_left (c.stands s) (is_touched c s) t) (both_right (c.stands s) (is_touched c s) t))
  where
    at : (x : Bool) → is_in done s ≡ x → c.stands s ≡ true → is_touched c s ≡ true → x ≡ true
    at true e there touched = refl
    at false e there touched =
        absurd (let off : is_touched c s ≡ false =
        lower_settle c laws done dirty m s there e (none s) (λ w on. absurd (let off : dirty w ≡ false = none w in cc)) in cc)

-- ---- the start

pub start_marks : StartMarks
start_marks c dirty h = record {
  waiting = λ s there new. h s ∙ rw there (sym (or_false (c.first s)));
  only = λ s on. (both_left (c.stands s) (c.first s) (sym (h s) ∙ on), refl);
  rises = λ t i. absurd (cc);
  right = λ t i. absurd (cc);
  once = tt;
}

-- ---- a turn

-- what waits is touched
pub dirty_is_touched :
    (c : Spread) → IsSpread c → (done : List Slot) (dirty : Slot → Bool) → IsMarked c done dirty
    → (s : Slot) → IsTrue (dirty s) → IsTrue (is_touched c s)
dirty_is_touched c laws done dirty m s on =
    let only = m.only s on in
    either (c.first s) (is_fed_by c done s) (sym (m.waiting s only.0 only.1) ∙ on)
    (λ e. or_left (c.first s) (is_fed_by c c.standing s) e)
    (λ e. or_right (c.first s) (is_fed_by c c.standing s) (some_in (λ t. c.feeds t s && c.moved t) done (is_fed_by c c.standing s) e
    (λ t i. passes_in (λ u. c.feeds u s && c.moved u) c.standing t (laws.listed t ∙ (m.right t i).0))))

rank_after :
    (c : Spread) → IsSpread c → (dirty : Slot → Bool) (s : Slot) → IsLeast c dirty (c.rank s)
    → (next : Slot → Bool) → IsNext c dirty s next → IsLeast c next (c.rank s)
rank_after c laws dirty s least next is w waiting =
    either (dirty w && not (slot_same w s)) (c.moved s && (c.stands w && c.feeds s w)) (sym (is w) ∙ waiting)
    (λ e. least w (both_left (dirty w) (not (slot_same w s)) e))
    (λ e. let f : c.feeds s w ≡ true = both_right (c.stands w) (c.feeds s w) (both_right (c.moved s) (c.stands w && c.feeds s w) e) in
    let l : c.rank s < c.rank w = laws.rising s w f in omega arith)

rank_before :
    (c : Spread) (done : List Slot) (dirty : Slot → Bool) → IsMarked c done dirty → (s : Slot) → IsTrue (dirty s)
    → (t : Slot) → is_in (done ++ s ∷ []) t ≡ true → c.rank t ≤ c.rank s
rank_before c done dirty m s on t i =
    either (is_in done t) (slot_same t s) (sym (in_push done s t) ∙ i)
    (λ e. m.rises t e s on)
    (λ e. let k : c.rank t ≡ c.rank s = ap c.rank (slot_same-equal t s e) in omega arith)

waits_as : (o f m x : Bool) → (((o || f) && true) || (m && x)) ≡ (o || (f || ((x && m) || false)))
waits_as true f m x = refl
waits_as false true m x = refl
waits_as false false true true = refl
waits_as false false true false = refl
waits_as false false false true = refl
waits_as false false false false = refl

pub not_done_yet :
    (c : Spread) (done : List Slot) (dirty : Slot → Bool) → IsMarked c done dirty → (s : Slot) → IsTrue (dirty s)
    → (q : Slot) → c.rank s < c.rank q → is_in (done ++ s ∷ []) q ≡ false
not_done_yet c done dirty m s on q l = at (is_in (done ++ s ∷ []) q) refl
  where
    at : (x : Bool) → is_in (done ++ s ∷ []) q ≡ x → x ≡ false
    at false e = refl
    at true e = absurd (let k : c.rank q ≤ c.rank s = rank_before c done dirty m s on q e in omega arith)

pub turn_marks : TurnMarks
turn_marks c laws done dirty m s on least next is = record {
  waiting = λ q there new.
      let both : (is_in done q || slot_same q s) ≡ false = sym (in_push done s q) ∙ new in
      let apart = or_neither (is_in done q) (slot_same q s) both in
      is q ∙ rw (apart.1, there, m.waiting q there apart.0, list_any-append) (waits_as (c.first q) (is_fed_by c done q) (c.moved s) (c.feeds s q));
  only = λ q waiting.
      either (dirty q && not (slot_same q s)) (c.moved s && (c.stands q && c.feeds s q)) (sym (is q) ∙ waiting)
      (λ e. let k = m.only q (both_left (dirty q) (not (slot_same q s)) e) in
      (k.0, in_push done s q ∙ neither_or (is_in done q) (slot_same q s) k.1 (not_true (slot_same q s) (both_right (dirty q) (not (slot_same q s)) e))))
      (λ e. let f = both_right (c.moved s) (c.stands q && c.feeds s q) e in
      (both_left (c.stands q) (c.feeds s q) f, not_done_yet c done dirty m s on q (laws.rising s q (both_right (c.stands q) (c.feeds s q) f))));
  rises = λ t i w waiting.
      let before : c.rank t ≤ c.rank s = rank_before c done dirty m s on t i in
      let after : c.rank s ≤ c.rank w = rank_after c laws dirty s least next is w waiting in omega arith;
  right = λ t i.
      either (is_in done t) (slot_same t s) (sym (in_push done s t) ∙ i)
      (m.right t)
      (λ e. rw (slot_same-equal t s e) ((m.only s on).0, dirty_is_touched c laws done dirty m s on));
  once = once_push done s m.once (m.only s on).1;
}
