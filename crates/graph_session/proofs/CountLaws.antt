-- Stamps as a list of the slots that stand.
use Rattle.std.proofs.Common.{◌≡◌, ℕ, ◌+◌, Bool, true, false, ◌&&◌, ◌||◌, if◌then◌else◌, option_map, IsTrue, List, [], ◌∷◌, map, Some, None, refl, sym, ap, ◌∙◌}
use Rattle.std.specs.List.{list_any}
use Rattle.fact_values.specs.declared.slot.Slot.{Slot}
use Rattle.common_lemmas.proofs.Bools.{or_left, or_right}
use Rattle.answers.specs.Answered.{Answered}
use Rattle.dict_meaning.specs.Accepted.{Accepted}
use Rattle.dictionary.specs.Engines.{AreFresh, AreMarkedBy, AreSameMarks, Marks}
use Rattle.dict_meaning.specs.Slots.{slot_same, standing, stands}
use Rattle.dict_meaning.specs.Touched.{stamped, touches, touched_count}
use Rattle.dict_meaning.proofs.SlotLaws.{listed_stand, slot_same-equal, slot_same-itself}
use Rattle.graph_session.specs.Counts.{Counts, counts_of, next_counts, no_counts, stamp_in, stamp_offered, stamps_of}

counts_by : Accepted → Answered → (Slot → ℕ) → ℕ → Counts
counts_by d a f n = record { stamps = stamps_of d a f; touched = n }

-- ---- lists of slots with stamps

pub with_stamps : (Slot → ℕ) → List Slot → List (Slot × ℕ)
with_stamps f ss = map (λ s. (s, f s)) ss

stamp_found : (f : Slot → ℕ) (ss : List Slot) (s : Slot) → list_any (slot_same s) ss ≡ true → stamp_in (with_stamps f ss) s ≡ f s
unfolding with_stamps
stamp_found f [] s h = absurd cc
stamp_found f (t ∷ ss) s h = at (slot_same s t) refl h (λ i. stamp_found f ss s i)
  where
    at : (b : Bool) → slot_same s t ≡ b → (b || list_any (slot_same s) ss) ≡ true → (list_any (slot_same s) ss ≡ true → stamp_in (map (λ s. (s, f s)) ss) s ≡ f s)
        → (if b then f t else stamp_in (map (λ s. (s, f s)) ss) s) ≡ f s
    at true e h rest = ap f (sym (slot_same-equal s t e))
    at false e h rest = rest h

same_on : (f g : Slot → ℕ) (ss : List Slot) → ((s : Slot) → list_any (slot_same s) ss ≡ true → f s ≡ g s) → with_stamps f ss ≡ with_stamps g ss
unfolding with_stamps
same_on f g [] h = refl
same_on f g (t ∷ ss) h =
    let here : f t ≡ g t = h t (or_left (slot_same t t) (list_any (slot_same t) ss) (slot_same-itself t)) in
    let rest : map (λ s. (s, f s)) ss ≡ map (λ s. (s, g s)) ss = same_on f g ss (λ s i. h s (or_right (slot_same s t) (list_any (slot_same s) ss) i)) in
    ap (λ n. (t, n) ∷ map (λ s. (s, f s)) ss) here ∙ ap (λ es. (t, g t) ∷ es) rest

-- ---- those of the slots that stand

-- the list has the stamp of each
pub stamp_listed : (d : Accepted) (a : Answered) (stamps : Slot → ℕ) (s : Slot) → stands d.tree a s ≡ true → stamp_in (stamps_of d a stamps) s ≡ stamps s
unfolding with_stamps
stamp_listed d a stamps s h = stamp_found stamps (standing d.tree a) s (listed_stand d.tree a s ∙ h)

-- two lists are equal where the stamps of the slots that stand are
pub stamps_same : (d : Accepted) (a : Answered) (f g : Slot → ℕ) → ((s : Slot) → IsTrue (stands d.tree a s) → f s ≡ g s) → stamps_of d a f ≡ stamps_of d a g
unfolding with_stamps
stamps_same d a f g h = same_on f g (standing d.tree a) (λ s i. h s (sym (listed_stand d.tree a s) ∙ i))

counts_same : (d : Accepted) (a : Answered) (f g : Slot → ℕ) (m n : ℕ) → ((s : Slot) → IsTrue (stands d.tree a s) → f s ≡ g s) → m ≡ n → counts_by d a f m ≡ counts_by d a g n
unfolding counts_by
counts_same d a f g m n h e = ap (λ l. record { stamps = l; touched = m }) (stamps_same d a f g h) ∙ ap (λ k. record { stamps = stamps_of d a g; touched = k }) e

-- ---- what an engine counts

pub fresh_counts : (d : Accepted) (a : Answered) (m : Marks) → AreFresh m → counts_of d a m ≡ no_counts d a
unfolding counts_by
fresh_counts d a m f = counts_same d a m.stamps (λ s. 0) m.touched 0 (λ s _. f.stamps s) f.touched

pub same_counts : (d : Accepted) (a : Answered) (m n : Marks) → AreSameMarks m n → counts_of d a n ≡ counts_of d a m
unfolding counts_by
same_counts d a m n f = counts_same d a n.stamps m.stamps n.touched m.touched (λ s _. f.stamps s) f.touched

-- a slot that stands and isn't touched stood before
stamped_listed : (d : Accepted) (a b : Answered) (k : ℕ) (m : Marks) (s : Slot) → stamped d a b k m.stamps s ≡ stamped d a b k (stamp_in (stamps_of d a m.stamps)) s
stamped_listed d a b k m s = at (touches d a b s) refl
  where
    at : (t : Bool) → touches d a b s ≡ t → (if t then k else m.stamps s) ≡ (if t then k else stamp_in (stamps_of d a m.stamps) s)
    at true e = refl
    at false e = sym (stamp_listed d a m.stamps s (stood (stands d.tree a s) refl))
      where
        stood : (t : Bool) → stands d.tree a s ≡ t → t ≡ true
        stood true h = refl
        stood false h = absurd (let touched : touches d a b s ≡ true = rw h refl in cc)

pub marked_counts : (d : Accepted) (a b : Answered) (k : ℕ) (m n : Marks) → m.changes ≡ k → AreMarkedBy d a b m n → counts_of d b n ≡ next_counts d a b (k + 1) (counts_of d a m)
unfolding counts_by
marked_counts d a b k m n e f =
    counts_same d b n.stamps (stamped d a b (k + 1) (stamp_in (stamps_of d a m.stamps))) n.touched (touched_count d a b)
    (λ s i. f.stamps s i ∙ ap (λ j. stamped d a b (j + 1) m.stamps s) e ∙ stamped_listed d a b (k + 1) m s) f.touched

-- the stamp of a slot, where the engine keeps stamps
pub offered_stamp : (d : Accepted) (a : Answered) (m : Marks) (offered : Bool) (s : Slot)
    → (if offered && stands d.tree a s then Some (m.stamps s) else None) ≡ stamp_offered (stands d.tree a s) (if offered then Some (counts_of d a m) else None) s
offered_stamp d a m false s = refl
offered_stamp d a m true s = at (stands d.tree a s) refl
  where
    at : (t : Bool) → stands d.tree a s ≡ t → (if t then Some (m.stamps s) else None) ≡ (if t then Some (stamp_in (stamps_of d a m.stamps) s) else None)
    at true e = ap Some (sym (stamp_listed d a m.stamps s e))
    at false e = refl

-- ---- where it may keep none

pub fresh_offered : (d : Accepted) (a : Answered) (m : Marks) (offered : Bool) → (IsTrue offered → AreFresh m)
    → (if offered then Some (counts_of d a m) else None) ≡ (if offered then Some (no_counts d a) else None)
fresh_offered d a m false f = refl
fresh_offered d a m true f = ap Some (fresh_counts d a m (f refl))

pub same_offered : (d : Accepted) (a : Answered) (m n : Marks) (offered : Bool) → (IsTrue offered → AreSameMarks m n)
    → (if offered then Some (counts_of d a n) else None) ≡ (if offered then Some (counts_of d a m) else None)
same_offered d a m n false f = refl
same_offered d a m n true f = ap Some (same_counts d a m n (f refl))

pub marked_offered : (d : Accepted) (a b : Answered) (k : ℕ) (m n : Marks) (offered : Bool) → (IsTrue offered → m.changes ≡ k)
    → (IsTrue offered → AreMarkedBy d a b m n)
    → (if offered then Some (counts_of d b n) else None) ≡ option_map (next_counts d a b (k + 1)) (if offered then Some (counts_of d a m) else None)
marked_offered d a b k m n false e f = refl
marked_offered d a b k m n true e f = ap Some (marked_counts d a b k m n (e refl) (f refl))
