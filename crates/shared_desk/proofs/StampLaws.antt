-- The stamp of a slot after a change.
use Rattle.std.proofs.Common.{◌≡◌, ◌⊎◌, inl, inr, ℕ, ◌+◌, Bool, true, false, ◌&&◌, if◌then◌else◌, IsTrue, List, [], ◌∷◌, map, Option, Some, option_map, refl, sym, ap, ◌∙◌}
use Rattle.std.specs.List.{list_any}
use Rattle.fact_values.specs.declared.slot.Slot.{Slot}
use Rattle.common_lemmas.proofs.Bools.{or_neither}
use Rattle.session_undo.specs.Timeline.{Timeline}
use Rattle.answers.specs.Answered.{Answered}
use Rattle.dict_meaning.specs.Accepted.{Accepted}
use Rattle.dict_meaning.specs.Slots.{slot_same, standing, stands}
use Rattle.dict_meaning.specs.Touched.{stamped, touches}
use Rattle.dict_meaning.proofs.SlotLaws.{listed_stand}
use Rattle.graph_session.specs.Counts.{Counts, next_counts, stamp_in, stamp_of, stamps_of}
use Rattle.graph_session.specs.Rules.{Rules, tree_of}
use Rattle.graph_session.specs.SessionView.{SessionState, moved}
use Rattle.graph_session.proofs.CountLaws.{stamp_listed}
use Rattle.shared_desk.specs.Desk.{is_touched}

-- ---- stamps in a list

stamp_missing : (f : Slot → ℕ) (ss : List Slot) (s : Slot) → list_any (slot_same s) ss ≡ false → stamp_in (map (λ t. (t, f t)) ss) s ≡ 0
stamp_missing f [] s h = refl
stamp_missing f (t ∷ ss) s h =
    let parts = or_neither (slot_same s t) (list_any (slot_same s) ss) h in
    ap (λ (b : Bool). if b then f t else stamp_in (map (λ s. (s, f s)) ss) s) parts.0 ∙ stamp_missing f ss s parts.1

-- a slot that doesn't stand has the stamp 0
stamp_unlisted : (d : Accepted) (a : Answered) (stamps : Slot → ℕ) (s : Slot) → stands d.tree a s ≡ false → stamp_in (stamps_of d a stamps) s ≡ 0
stamp_unlisted d a stamps s h = stamp_missing stamps (standing d.tree a) s (listed_stand d.tree a s ∙ h)

-- ---- after a change

-- of a slot that is touched or isn't: it has the change's number; or it has the stamp that it had, or doesn't stand
abbrev pub StampAfter : ℕ → ℕ → Bool → ℕ → Type 0
StampAfter number before is n = (IsTrue is × (n ≡ number)) ⊎ ((is ≡ false) × ((n ≡ 0) ⊎ (n ≡ before)))

module _ (r : Rules) (s : SessionState) (to : Timeline) (k : Counts) (has : s.counts ≡ Some k) (x : Slot) where
  counts_after : stamp_of (moved r.accepted s to).counts x ≡ stamp_in (stamps_of r.accepted to.now (stamped r.accepted s.timeline.now to.now (s.changes + 1) (stamp_in k.stamps))) x
  counts_after = ap (λ (o : Option Counts). stamp_of (option_map (next_counts r.accepted s.timeline.now to.now (s.changes + 1)) o) x) has

  pub listed_after : stands (tree_of r) to.now x ≡ true → (t : Bool) → touches r.accepted s.timeline.now to.now x ≡ t → stamp_of (moved r.accepted s to).counts x ≡ if t then s.changes + 1 else stamp_in k.stamps x
  listed_after here t e =
      counts_after
      ∙ stamp_listed r.accepted to.now (stamped r.accepted s.timeline.now to.now (s.changes + 1) (stamp_in k.stamps)) x here
      ∙ ap (λ (u : Bool). if u then s.changes + 1 else stamp_in k.stamps x) e

  touched_or : stands (tree_of r) to.now x ≡ true → (t : Bool) → touches r.accepted s.timeline.now to.now x ≡ t
      → StampAfter (s.changes + 1) (stamp_of s.counts x) (stands (tree_of r) to.now x && t) (stamp_of (moved r.accepted s to).counts x)
  touched_or here true e = inl (ap (λ (u : Bool). u && true) here, listed_after here true e)
  touched_or here false e = inr (ap (λ (u : Bool). u && false) here, inr (listed_after here false e ∙ sym (ap (λ (o : Option Counts). stamp_of o x) has)))

  stands_or : (t : Bool) → stands (tree_of r) to.now x ≡ t → StampAfter (s.changes + 1) (stamp_of s.counts x) (is_touched r.accepted s.timeline.now to.now x) (stamp_of (moved r.accepted s to).counts x)
  stands_or true e = touched_or e (touches r.accepted s.timeline.now to.now x) refl
  stands_or false e = inr (
    ap (λ (u : Bool). u && touches r.accepted s.timeline.now to.now x) e,
    inl (counts_after ∙ stamp_unlisted r.accepted to.now (stamped r.accepted s.timeline.now to.now (s.changes + 1) (stamp_in k.stamps)) x e),
  )

  pub stamp_after : StampAfter (s.changes + 1) (stamp_of s.counts x) (is_touched r.accepted s.timeline.now to.now x) (stamp_of (moved r.accepted s to).counts x)
  stamp_after = stands_or (stands (tree_of r) to.now x) refl

-- before any change
pub stamp_begun : (d : Accepted) (a : Answered) (s : Slot) → stamp_in (stamps_of d a (λ t. 0)) s ≡ 0
stamp_begun d a s = at (stands d.tree a s) refl
  where
    at : (t : Bool) → stands d.tree a s ≡ t → stamp_in (stamps_of d a (λ t. 0)) s ≡ 0
    at true e = stamp_listed d a (λ t. 0) s e
    at false e = stamp_unlisted d a (λ t. 0) s e
