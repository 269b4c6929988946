-- Slots that have a place, and marks at places.
use Rattle.std.proofs.Common.{◌≡◌, ℕ, zero, suc, ◌-◌, ◌<◌, ◌≤◌, Bool, true, false, not, ◌&&◌, ◌||◌, nat_eq, nat_lt, IsTrue, [], ◌∷◌, ◌++◌, List, All, length, Option, Some, None, refl, sym, ap, subst, ◌∙◌, arith}
use Rattle.std.specs.List.{slice_get}
use Rattle.std.proofs.lemmas.Bool.{and_right}
use Rattle.std.proofs.lemmas.Bool.Decides.{nat_tests}
use Rattle.common_lemmas.proofs.Bools.{and_true, both_right, or_assoc}
use Rattle.std.proofs.lemmas.List.Elements.{All-head, All-tail}
use Rattle.std.specs.Prelude.{if◌then◌else◌, IfNone, IfSome}
use Rattle.dirty_slots.specs.Waiting.{either}
use Rattle.dirty_slots.specs.PlaceBits.{is_one}
use Rattle.dirty_slots.specs.Places.{AreRising, Each, is_at_any, is_before, marked}
use Rattle.dirty_slots.specs.Slots.{dirty_same, DirtySlots, is_among, is_dirty, Test}
use Rattle.dirty_slots.specs.declared.dirty_slot.DirtySlot.{DirtySlot}
use Rattle.dirty_slots.proofs.DirtyLaws.{dirty_turn}

same_for : (q s t : DirtySlot) → IsTrue (dirty_same s t) → dirty_same q s ≡ dirty_same q t
same_for q s t h = grind (arith, nat_tests)

pub same_self : (s : DirtySlot) → dirty_same s s ≡ true
same_self s = grind (arith, nat_tests)

apart : (q s t : DirtySlot) → IsTrue (is_before s t) → IsTrue (dirty_same q s) → dirty_same q t ≡ false
apart q s t h e = grind (arith, nat_tests)

same_rank : (q s : DirtySlot) → IsTrue (dirty_same q s) → q.rank ≡ s.rank
same_rank q s h = grind (arith, nat_tests)

other_rank : (q s : DirtySlot) → s.rank < q.rank → dirty_same q s ≡ false
other_rank q s h = grind (arith, nat_tests)

before_rank : (s t : DirtySlot) → IsTrue (is_before s t) → s.rank ≤ t.rank
before_rank s t h = grind (arith, nat_tests)

before_then : (r s t : DirtySlot) → IsTrue (is_before r s) → IsTrue (is_before s t) → IsTrue (is_before r t)
before_then r s t h k = grind (arith, nat_tests)

next_same : (i p : ℕ) → nat_eq (suc i) (suc p) ≡ nat_eq i p
next_same i p = grind (arith, nat_tests)

zero_same : nat_eq 0 0 ≡ true
zero_same = grind (arith, nat_tests)

next_other : (i : ℕ) → nat_eq (suc i) 0 ≡ false
next_other i = grind (arith, nat_tests)

zero_other : (p : ℕ) → nat_eq 0 (suc p) ≡ false
zero_other p = grind (arith, nat_tests)

all_at : (P : DirtySlot → Type 0) (ss : DirtySlots) (p : ℕ) (d : DirtySlot) → Each P ss → slice_get ss p ≡ Some d → P d
all_at P [] p d all there = absurd cc
all_at P (s ∷ ss) zero d all there = subst P (some_is there) all.0
  where
    some_is : Some s ≡ Some d → s ≡ d
    some_is e = cc
all_at P (s ∷ ss) (suc p) d all there = all_at P ss p d all.1 there

-- ---- which are marked

abbrev pub is_marked : (ℕ → Bool) → DirtySlots → DirtySlot → Bool
is_marked marks [] q = false
is_marked marks (s ∷ ss) q = (marks 0 && dirty_same q s) || is_marked (λ i. marks (suc i)) ss q

waits_marked : (marks : ℕ → Bool) (ss : DirtySlots) (q : DirtySlot) → is_among (marked marks ss) q ≡ is_marked marks ss q
waits_marked marks [] q = refl
waits_marked marks (s ∷ ss) q = at (marks 0) (waits_marked (λ i. marks (suc i)) ss q)
  where
    at : (m : Bool) → is_among (marked (λ i. marks (suc i)) ss) q ≡ is_marked (λ i. marks (suc i)) ss q
        → is_among (if m then s ∷ marked (λ i. marks (suc i)) ss else marked (λ i. marks (suc i)) ss) q ≡ ((m && dirty_same q s) || is_marked (λ i. marks (suc i)) ss q)
    at true e = ap (λ b. dirty_same q s || b) e
    at false e = e

-- what waits is marked, or among the others
pub waits_either : (marks : ℕ → Bool) (ss : DirtySlots) (others : Test) (q : DirtySlot) → either marks ss others q ≡ (is_marked marks ss q || others q)
waits_either marks ss others q = ap (λ b. b || others q) (waits_marked marks ss q)

same_marks : (marks others : ℕ → Bool) (ss : DirtySlots) (q : DirtySlot) → ((i : ℕ) → marks i ≡ others i) → is_marked marks ss q ≡ is_marked others ss q
same_marks marks others [] q same = refl
same_marks marks others (s ∷ ss) q same = rw (same 0, same_marks (λ i. marks (suc i)) (λ i. others (suc i)) ss q (λ i. same (suc i))) refl

pub unmarked : (marks : ℕ → Bool) (ss : DirtySlots) (q : DirtySlot) → ((i : ℕ) → i < length ss → marks i ≡ false) → is_marked marks ss q ≡ false
unmarked marks [] q none = refl
unmarked marks (s ∷ ss) q none = rw (none 0 (omega arith), unmarked (λ i. marks (suc i)) ss q (λ i l. none (suc i) (omega arith))) refl

or_mine : (m x r : Bool) → ((true && x) || r) ≡ (x || ((m && x) || r))
or_mine m true r = refl
or_mine true false r = refl
or_mine false false r = refl

or_swap : (a b r : Bool) → (a || (b || r)) ≡ (b || (a || r))
or_swap true true r = refl
or_swap true false r = refl
or_swap false true r = refl
or_swap false false r = refl

pub marked_more : (marks more : ℕ → Bool) (ss : DirtySlots) (p : ℕ) (dirty : DirtySlot) → IsTrue (is_dirty (slice_get ss p) dirty)
    → ((i : ℕ) → more i ≡ (nat_eq i p || marks i)) → (q : DirtySlot) → is_marked more ss q ≡ (dirty_same q dirty || is_marked marks ss q)
marked_more marks more [] p dirty there is q = absurd cc
marked_more marks more (s ∷ ss) zero dirty there is q =
    rw (is 0 ∙ ap (λ b. b || marks 0) zero_same, same_marks (λ i. more (suc i)) (λ i. marks (suc i)) ss q (λ i. is (suc i) ∙ ap (λ b. b || marks (suc i)) (next_other i)), same_for q s dirty there) (or_mine (marks 0) (dirty_same q dirty) (is_marked (λ i. marks (suc i)) ss q))
marked_more marks more (s ∷ ss) (suc p) dirty there is q =
    rw (is 0 ∙ ap (λ b. b || marks 0) (zero_other p), marked_more (λ i. marks (suc i)) (λ i. more (suc i)) ss p dirty there (λ i. is (suc i) ∙ ap (λ b. b || marks (suc i)) (next_same i p)) q)
    (or_swap (marks 0 && dirty_same q s) (dirty_same q dirty) (is_marked (λ i. marks (suc i)) ss q))

-- where there is no slot at a place, all places are before it
pub all_placed_before : (ss : DirtySlots) (p : ℕ) → slice_get ss p ≡ None → (i : ℕ) → i < length ss → i < p
all_placed_before [] p none i l = absurd (omega arith)
all_placed_before (s ∷ ss) zero none i l = absurd cc
all_placed_before (s ∷ ss) (suc p) none zero l = omega arith
all_placed_before (s ∷ ss) (suc p) none (suc i) l = let before = all_placed_before ss p none i (omega arith) in omega arith

-- where the slot at a place is this one

pub is_of_slot : (o : Option DirtySlot) (s q : DirtySlot) → IsTrue (is_dirty o s) → is_dirty o q ≡ dirty_same q s
is_of_slot None s q h = absurd cc
is_of_slot (Some t) s q h = dirty_turn t q ∙ same_for q t s h

pub place_within : (ss : DirtySlots) (p : ℕ) (s : DirtySlot) → IsTrue (is_dirty (slice_get ss p) s) → p < length ss
place_within [] p s h = absurd cc
place_within (t ∷ ss) zero s h = omega arith
place_within (t ∷ ss) (suc p) s h = let rest = place_within ss p s h in omega arith

-- the same of all these places
marked_all : (marks more : ℕ → Bool) (ss : DirtySlots) (ps : List ℕ) → All (λ p. p < length ss) ps
    → ((i : ℕ) → more i ≡ (is_one ps i || marks i)) → (q : DirtySlot) → is_marked more ss q ≡ (is_at_any ss ps q || is_marked marks ss q)
marked_all marks more ss [] within is q = same_marks more marks ss q is
marked_all marks more ss (p ∷ ps) within is q =
    at (slice_get ss p) refl (marked_all marks (λ i. is_one ps i || marks i) ss ps (All-tail (λ i. i < length ss) p ps within) (λ i. refl) q)
  where
    at : (o : Option DirtySlot) → slice_get ss p ≡ o → is_marked (λ i. is_one ps i || marks i) ss q ≡ (is_at_any ss ps q || is_marked marks ss q)
        → is_marked more ss q ≡ ((is_dirty o q || is_at_any ss ps q) || is_marked marks ss q)
    at None there rest = absurd (let h : p < p = all_placed_before ss p there p (All-head (λ i. i < length ss) p ps within) in omega arith)
    at (Some s) there rest =
        marked_more (λ i. is_one ps i || marks i) more ss p s (ap (λ o. is_dirty o s) there ∙ same_self s) (λ i. is i ∙ or_assoc (nat_eq i p) (is_one ps i) (marks i)) q
        ∙ ap (λ b. b || is_marked (λ i. is_one ps i || marks i) ss q) (dirty_turn q s)
        ∙ ap (λ b. dirty_same s q || b) rest ∙ sym (or_assoc (dirty_same s q) (is_at_any ss ps q) (is_marked marks ss q))

none_same : (marks : ℕ → Bool) (s : DirtySlot) (ss : DirtySlots) (q : DirtySlot) → Each (λ t. IsTrue (is_before s t)) ss → IsTrue (dirty_same q s) → is_marked marks ss q ≡ false
none_same marks s [] q all e = refl
none_same marks s (t ∷ ss) q all e = rw (apart q s t all.0 e, none_same (λ i. marks (suc i)) s ss q all.1 e) (and_false (marks 0))
  where
    and_false : (b : Bool) → ((b && false) || false) ≡ false
    and_false true = refl
    and_false false = refl

less_here : (m x r : Bool) → (IsTrue x → r ≡ false) → r ≡ (((m && x) || r) && not x)
less_here true true r h = h refl
less_here false true r h = h refl ∙ ap (λ b. b && false) (sym (h refl))
less_here true false true h = refl
less_here true false false h = refl
less_here false false true h = refl
less_here false false false h = refl

less_there : (a r y : Bool) → (IsTrue a → y ≡ false) → (a || (r && not y)) ≡ ((a || r) && not y)
less_there true r y h = sym (ap not (h refl))
less_there false r y h = refl

pub marked_less : (marks fewer : ℕ → Bool) (ss : DirtySlots) (p : ℕ) (dirty : DirtySlot) → AreRising ss → slice_get ss p ≡ Some dirty
    → ((i : ℕ) → fewer i ≡ (marks i && not (nat_eq i p))) → (q : DirtySlot) → is_marked fewer ss q ≡ (is_marked marks ss q && not (dirty_same q dirty))
marked_less marks fewer [] p dirty rising there is q = absurd cc
marked_less marks fewer (s ∷ ss) zero dirty rising there is q =
    subst (λ d. is_marked fewer (s ∷ ss) q ≡ (is_marked marks (s ∷ ss) q && not (dirty_same q d))) (some_is there)
    (rw (is 0 ∙ ap (λ b. marks 0 && not b) zero_same ∙ and_right (marks 0) false refl, same_marks (λ i. fewer (suc i)) (λ i. marks (suc i)) ss q (λ i. is (suc i) ∙ ap (λ b. marks (suc i) && not b) (next_other i) ∙ and_true (marks (suc i))))
    (less_here (marks 0) (dirty_same q s) (is_marked (λ i. marks (suc i)) ss q) (none_same (λ i. marks (suc i)) s ss q rising.0)))
  where
    some_is : Some s ≡ Some dirty → s ≡ dirty
    some_is e = cc
marked_less marks fewer (s ∷ ss) (suc p) dirty rising there is q =
    rw (is 0 ∙ ap (λ b. marks 0 && not b) (zero_other p) ∙ and_true (marks 0), marked_less (λ i. marks (suc i)) (λ i. fewer (suc i)) ss p dirty rising.1 there (λ i. is (suc i) ∙ ap (λ b. marks (suc i) && not b) (next_same i p)) q)
    (less_there (marks 0 && dirty_same q s) (is_marked (λ i. marks (suc i)) ss q) (dirty_same q dirty)
    (λ h. apart q s dirty (all_at (λ t. IsTrue (is_before s t)) ss p dirty rising.0 there) (both_right (marks 0) (dirty_same q s) h)))

pub marked_at : (marks : ℕ → Bool) (ss : DirtySlots) (p : ℕ) (dirty : DirtySlot) → slice_get ss p ≡ Some dirty → marks p ≡ true → is_marked marks ss dirty ≡ true
marked_at marks [] p dirty there mark = absurd cc
marked_at marks (s ∷ ss) zero dirty there mark =
    subst (λ d. is_marked marks (s ∷ ss) d ≡ true) (some_is there) (rw (mark, same_self s) refl)
  where
    some_is : Some s ≡ Some dirty → s ≡ dirty
    some_is e = cc
marked_at marks (s ∷ ss) (suc p) dirty there mark = rw (marked_at (λ i. marks (suc i)) ss p dirty there mark) (or_true (marks 0 && dirty_same dirty s))
  where
    or_true : (b : Bool) → (b || true) ≡ true
    or_true true = refl
    or_true false = refl

marked_rank : (marks : ℕ → Bool) (s : DirtySlot) (ss : DirtySlots) (q : DirtySlot) → Each (λ t. IsTrue (is_before s t)) ss → IsTrue (is_marked marks ss q) → s.rank ≤ q.rank
marked_rank marks s [] q all h = absurd cc
marked_rank marks s (t ∷ ss) q all h = at (marks 0) (dirty_same q t) refl (λ k. marked_rank (λ i. marks (suc i)) s ss q all.1 k) h
  where
    at : (m x : Bool) → dirty_same q t ≡ x → (IsTrue (is_marked (λ i. marks (suc i)) ss q) → s.rank ≤ q.rank)
        → IsTrue ((m && x) || is_marked (λ i. marks (suc i)) ss q) → s.rank ≤ q.rank
    at true true e rest k = omega (arith, same_rank q t e, before_rank s t all.0)
    at true false e rest k = rest k
    at false x e rest k = rest k

pub lowest_marked : (marks : ℕ → Bool) (ss : DirtySlots) (p : ℕ) (dirty : DirtySlot) → AreRising ss → slice_get ss p ≡ Some dirty
    → ((i : ℕ) → i < p → marks i ≡ false) → (q : DirtySlot) → IsTrue (is_marked marks ss q) → dirty.rank ≤ q.rank
lowest_marked marks [] p dirty rising there none q h = absurd cc
lowest_marked marks (s ∷ ss) zero dirty rising there none q h = subst (λ d. d.rank ≤ q.rank) (some_is there) (at (marks 0) (dirty_same q s) refl h)
  where
    some_is : Some s ≡ Some dirty → s ≡ dirty
    some_is e = cc

    at : (m x : Bool) → dirty_same q s ≡ x → IsTrue ((m && x) || is_marked (λ i. marks (suc i)) ss q) → s.rank ≤ q.rank
    at true true e k = omega (arith, same_rank q s e)
    at true false e k = marked_rank (λ i. marks (suc i)) s ss q rising.0 k
    at false x e k = marked_rank (λ i. marks (suc i)) s ss q rising.0 k
lowest_marked marks (s ∷ ss) (suc p) dirty rising there none q h =
    lowest_marked (λ i. marks (suc i)) ss p dirty rising.1 there (λ i l. none (suc i) (omega arith)) q (rest (none 0 (omega arith)) h)
  where
    rest : marks 0 ≡ false → IsTrue ((marks 0 && dirty_same q s) || is_marked (λ i. marks (suc i)) ss q) → IsTrue (is_marked (λ i. marks (suc i)) ss q)
    rest e k = sym (rw e refl) ∙ k

-- ---- what waits: the marked ones, and others

module _ (marks : ℕ → Bool) (ss : DirtySlots) (others : Test) where
  -- one more has its place marked
  pub placed_added : (more : ℕ → Bool) (p : ℕ) (dirty : DirtySlot) → IsTrue (is_dirty (slice_get ss p) dirty) → ((i : ℕ) → more i ≡ (nat_eq i p || marks i))
      → (q : DirtySlot) → either more ss others q ≡ (dirty_same q dirty || either marks ss others q)
  placed_added more p dirty there is q =
      waits_either more ss others q ∙ ap (λ b. b || others q) (marked_more marks more ss p dirty there is q)
      ∙ or_assoc (dirty_same q dirty) (is_marked marks ss q) (others q) ∙ ap (λ b. dirty_same q dirty || b) (sym (waits_either marks ss others q))

  -- the places of all these slots are marked
  pub all_added : (more : ℕ → Bool) (ps : List ℕ) → All (λ p. p < length ss) ps → ((i : ℕ) → more i ≡ (is_one ps i || marks i))
      → (q : DirtySlot) → either more ss others q ≡ (is_at_any ss ps q || either marks ss others q)
  all_added more ps within is q =
      waits_either more ss others q ∙ ap (λ b. b || others q) (marked_all marks more ss ps within is q)
      ∙ or_assoc (is_at_any ss ps q) (is_marked marks ss q) (others q) ∙ ap (λ b. is_at_any ss ps q || b) (sym (waits_either marks ss others q))

  -- one more is among the others
  pub other_added : (more : Test) (dirty q : DirtySlot) → more q ≡ (dirty_same q dirty || others q)
      → either marks ss more q ≡ (dirty_same q dirty || either marks ss others q)
  other_added more dirty q is =
      waits_either marks ss more q ∙ ap (λ b. is_marked marks ss q || b) is
      ∙ or_swap (is_marked marks ss q) (dirty_same q dirty) (others q) ∙ ap (λ b. dirty_same q dirty || b) (sym (waits_either marks ss others q))

  pub other_same : (now : Test) (q : DirtySlot) → now q ≡ others q → either marks ss now q ≡ either marks ss others q
  other_same now q is = waits_either marks ss now q ∙ ap (λ b. is_marked marks ss q || b) is ∙ sym (waits_either marks ss others q)

  -- where no place is marked, the others wait alone
  pub none_placed : ((i : ℕ) → i < length ss → marks i ≡ false) → (q : DirtySlot) → either marks ss others q ≡ others q
  none_placed none q = waits_either marks ss others q ∙ ap (λ b. b || others q) (unmarked marks ss q none)

  module _ (none : (i : ℕ) → i < length ss → marks i ≡ false) (popped : Option DirtySlot) where
    pub other_none : IfNone popped ((q : DirtySlot) → others q ≡ false) → IfNone popped ((q : DirtySlot) → either marks ss others q ≡ false)
    other_none = at popped
      where
        at : (o : Option DirtySlot) → IfNone o ((q : DirtySlot) → others q ≡ false) → IfNone o ((q : DirtySlot) → either marks ss others q ≡ false)
        at None h = λ q. none_placed none q ∙ h q
        at (Some dirty) h = tt

    pub other_rest : (left : Test) → IfSome popped (λ dirty. (q : DirtySlot) → left q ≡ (others q && not (dirty_same q dirty)))
        → IfSome popped (λ dirty. (q : DirtySlot) → either marks ss left q ≡ (either marks ss others q && not (dirty_same q dirty)))
    other_rest left = at popped
      where
        at : (o : Option DirtySlot) → IfSome o (λ dirty. (q : DirtySlot) → left q ≡ (others q && not (dirty_same q dirty)))
            → IfSome o (λ dirty. (q : DirtySlot) → either marks ss left q ≡ (either marks ss others q && not (dirty_same q dirty)))
        at None h = tt
        at (Some dirty) h = λ q. waits_either marks ss left q ∙ ap (λ b. b || left q) (unmarked marks ss q none) ∙ h q ∙ ap (λ b. b && not (dirty_same q dirty)) (sym (none_placed none q))

    pub only_least : IfSome popped (λ dirty. (q : DirtySlot) → IsTrue (others q) → dirty.rank ≤ q.rank)
        → IfSome popped (λ dirty. (q : DirtySlot) → IsTrue (either marks ss others q) → dirty.rank ≤ q.rank)
    only_least = at popped
      where
        at : (o : Option DirtySlot) → IfSome o (λ dirty. (q : DirtySlot) → IsTrue (others q) → dirty.rank ≤ q.rank)
            → IfSome o (λ dirty. (q : DirtySlot) → IsTrue (either marks ss others q) → dirty.rank ≤ q.rank)
        at None h = tt
        at (Some dirty) h = λ q w. h q (sym (none_placed none q) ∙ w)

  module _ (p : ℕ) (dirty : DirtySlot) (rising : AreRising ss) (there : slice_get ss p ≡ Some dirty) (none : (i : ℕ) → i < p → marks i ≡ false) where
    -- the first marked one is of the lowest rank where none of the others is lower
    pub placed_least : ((q : DirtySlot) → IsTrue (others q) → dirty.rank ≤ q.rank) → (q : DirtySlot) → IsTrue (either marks ss others q) → dirty.rank ≤ q.rank
    placed_least least q h = at (is_marked marks ss q) refl (sym (waits_either marks ss others q) ∙ h)
      where
        at : (m : Bool) → is_marked marks ss q ≡ m → IsTrue (m || others q) → dirty.rank ≤ q.rank
        at true e k = lowest_marked marks ss p dirty rising there none q e
        at false e k = least q k

    pub placed_waits : marks p ≡ true → IsTrue (either marks ss others dirty)
    placed_waits mark = waits_either marks ss others dirty ∙ ap (λ b. b || others dirty) (marked_at marks ss p dirty there mark)

    pub placed_taken : (fewer : ℕ → Bool) (left : Test) → ((i : ℕ) → fewer i ≡ (marks i && not (nat_eq i p))) → (q : DirtySlot)
        → left q ≡ (others q && not (dirty_same q dirty)) → either fewer ss left q ≡ (either marks ss others q && not (dirty_same q dirty))
    placed_taken fewer left is q out =
        waits_either fewer ss left q ∙ (λ i. marked_less marks fewer ss p dirty rising there is q i || out i)
        ∙ both_less (is_marked marks ss q) (others q) (not (dirty_same q dirty)) ∙ ap (λ b. b && not (dirty_same q dirty)) (sym (waits_either marks ss others q))
      where
        both_less : (a b n : Bool) → ((a && n) || (b && n)) ≡ ((a || b) && n)
        both_less true true true = refl
        both_less true true false = refl
        both_less true false true = refl
        both_less true false false = refl
        both_less false b n = refl

    -- one of the others that is lower than all marked ones
    module _ (lower : DirtySlot) (below : lower.rank < dirty.rank) where
      pub other_taken : (left : Test) (q : DirtySlot) → left q ≡ (others q && not (dirty_same q lower))
          → either marks ss left q ≡ (either marks ss others q && not (dirty_same q lower))
      other_taken left q out =
          waits_either marks ss left q ∙ ap (λ b. is_marked marks ss q || b) out ∙ kept (is_marked marks ss q) refl
          ∙ ap (λ b. b && not (dirty_same q lower)) (sym (waits_either marks ss others q))
        where
          unlike : IsTrue (is_marked marks ss q) → dirty_same q lower ≡ false
          unlike m = other_rank q lower (let le = lowest_marked marks ss p dirty rising there none q m in omega arith)

          kept : (m : Bool) → is_marked marks ss q ≡ m → (m || (others q && not (dirty_same q lower))) ≡ ((m || others q) && not (dirty_same q lower))
          kept true e = sym (ap not (unlike e))
          kept false e = refl

      pub other_least : ((q : DirtySlot) → IsTrue (others q) → lower.rank ≤ q.rank) → (q : DirtySlot) → IsTrue (either marks ss others q) → lower.rank ≤ q.rank
      other_least least q h = at (is_marked marks ss q) refl (sym (waits_either marks ss others q) ∙ h)
        where
          at : (m : Bool) → is_marked marks ss q ≡ m → IsTrue (m || others q) → lower.rank ≤ q.rank
          at true e k = let le = lowest_marked marks ss p dirty rising there none q e in omega arith
          at false e k = least q k

  pub other_waits : (lower : DirtySlot) → IsTrue (others lower) → IsTrue (either marks ss others lower)
  other_waits lower h = waits_either marks ss others lower ∙ or_there (is_marked marks ss lower) (others lower) h
    where
      or_there : (a b : Bool) → b ≡ true → (a || b) ≡ true
      or_there true b h = refl
      or_there false b h = h

-- ---- one more place, behind the last

all_more : (P : DirtySlot → Type 0) (ss : DirtySlots) (t : DirtySlot) → Each P ss → P t → Each P (ss ++ t ∷ [])
all_more P [] t all p = (p, tt)
all_more P (s ∷ ss) t all p = (all.0, all_more P ss t all.1 p)

-- what is behind the last is behind all
behind_all : (ss : DirtySlots) (last t : DirtySlot) → AreRising ss → slice_get ss (length ss - 1) ≡ Some last → IsTrue (is_before last t) → Each (λ s. IsTrue (is_before s t)) ss
behind_all [] last t rising is h = tt
behind_all (s ∷ []) last t rising is h = (subst (λ d. IsTrue (is_before d t)) (sym (some_is is)) h, tt)
  where
    some_is : Some s ≡ Some last → s ≡ last
    some_is e = cc
behind_all (s ∷ r ∷ ss) last t rising is h =
    let one_less : length (s ∷ r ∷ ss) - 1 ≡ suc (length (r ∷ ss) - 1) = omega arith in
    let all = behind_all (r ∷ ss) last t rising.1 (ap (slice_get (s ∷ r ∷ ss)) (sym one_less) ∙ is) h in
    (before_then s r t rising.0.0 all.0, all)

rises : (ss : DirtySlots) (t : DirtySlot) → AreRising ss → Each (λ s. IsTrue (is_before s t)) ss → AreRising (ss ++ t ∷ [])
rises [] t rising all = (tt, tt)
rises (s ∷ ss) t rising all = (all_more (λ x. IsTrue (is_before s x)) ss t rising.0 all.0, rises ss t rising.1 all.1)

pub one_more_rises : (ss : DirtySlots) (last t : DirtySlot) → AreRising ss → slice_get ss (length ss - 1) ≡ Some last → IsTrue (is_before last t) → AreRising (ss ++ t ∷ [])
one_more_rises ss last t rising is h = rises ss t rising (behind_all ss last t rising is h)

pub lower_before : (s t : DirtySlot) → IsTrue (nat_lt s.rank t.rank) → IsTrue (is_before s t)
lower_before s t h = grind (arith, nat_tests)

pub beside_before : (s t : DirtySlot) → s.rank ≡ t.rank → IsTrue (nat_lt s.fact t.fact) → IsTrue (is_before s t)
beside_before s t h k = grind (arith, nat_tests)
