-- What the commands of a session take and leave.
use Rattle.std.proofs.Common.{◌≡◌, ℕ, ◌+◌, Bool, true, false, if◌then◌else◌, IsTrue, Option, Some, None, is_some, option_map, refl, sym, ap, ◌∙◌, subst}
use Rattle.fact_values.specs.declared.slot.Slot.{Slot}
use Rattle.session_undo.specs.Timeline.{Timeline}
use Rattle.dictionary.specs.AcceptedParts.{names_of}
use Rattle.dict_meaning.specs.Slots.{stands}
use Rattle.dict_meaning.specs.Touched.{stamped, touches}
use Rattle.dict_meaning.specs.Weights.{touched_weight}
use Rattle.dict_meaning.proofs.UntouchedLaws.{untouched_keeps}
use Rattle.graph_session.specs.Counts.{Counts, next_counts, stamp_in, stamp_of}
use Rattle.graph_session.specs.Rules.{Rules, tree_of}
use Rattle.graph_session.specs.SessionView.{SessionState, moved}
use Rattle.graph_session.specs.Step.{moved_by, refusal, reply, steps_to, timeline_by}
use Rattle.graph_session.specs.declared.reply.Refusal.{Refusal}
use Rattle.graph_session.proofs.CountLaws.{stamp_listed}
use Rattle.graph_session.proofs.StepLaws.{accepted_step, changes_move, decided_err, most_by, questions_stay}
use Rattle.session_steps.specs.Sessions.{ChangesTakeTouched, QuestionsChangeNone, QuestionsTakeNone, RefusedTakeNone, TouchedHaveNumber, UntouchedKeepAll}

-- ---- steps

pub changes_take_touched : ChangesTakeTouched
changes_take_touched r s t c said is e =
    let parts = accepted_step r s t c said e in
    let to = changes_move (tree_of r) s.timeline c is in
    most_by (touched_weight r.accepted) r s c (Some to.0) parts.0 to.1
    ∙ ap (λ (u : SessionState). touched_weight r.accepted s.timeline.now u.timeline.now) (sym (parts.1.1 ∙ ap (moved_by r s) to.1))

pub refused_take_none : RefusedTakeNone
refused_take_none most r s c why e =
    ap (λ (o : Option Refusal). if is_some o then 0 else steps_to most s.timeline.now (timeline_by (tree_of r) s.timeline c))
    (decided_err (refusal r s c) (reply r s c, moved_by r s (timeline_by (tree_of r) s.timeline c)) why (sym e))

pub questions_take_none : QuestionsTakeNone
questions_take_none most r s c e =
    ap (λ (o : Option Timeline). if is_some (refusal r s c) then 0 else steps_to most s.timeline.now o) (questions_stay (tree_of r) s.timeline c e)
    ∙ either (is_some (refusal r s c))
  where
    either : (b : Bool) → ◌≡◌ {A = ℕ} (if b then 0 else 0) 0
    either true = refl
    either false = refl

-- ---- results and stamps

pub questions_change_none : QuestionsChangeNone
questions_change_none r s t c said is e = (accepted_step r s t c said e).1.1 ∙ ap (moved_by r s) (questions_stay (tree_of r) s.timeline c is)

-- the stamp of a slot that stands where a change leads
module _ (r : Rules) (s : SessionState) (to : Timeline) (x : Slot) (stands_there : IsTrue (stands (tree_of r) to.now x)) where
  stamp_after : (k : Counts) → s.counts ≡ Some k → stamp_of (moved r.accepted s to).counts x ≡ stamped r.accepted s.timeline.now to.now (s.changes + 1) (stamp_in k.stamps) x
  stamp_after k e =
      ap (λ (o : Option Counts). stamp_of (option_map (next_counts r.accepted s.timeline.now to.now (s.changes + 1)) o) x) e
      ∙ stamp_listed r.accepted to.now (stamped r.accepted s.timeline.now to.now (s.changes + 1) (stamp_in k.stamps)) x stands_there

  stamp_kept : touches r.accepted s.timeline.now to.now x ≡ false → stamp_of s.counts x ≡ stamp_of (moved r.accepted s to).counts x
  stamp_kept e = at s.counts refl
    where
      at : (o : Option Counts) → s.counts ≡ o → stamp_of s.counts x ≡ stamp_of (moved r.accepted s to).counts x
      at None h = ap (λ (o : Option Counts). stamp_of o x) h ∙ sym (ap (λ (o : Option Counts). stamp_of (option_map (next_counts r.accepted s.timeline.now to.now (s.changes + 1)) o) x) h)
      at (Some k) h = ap (λ (o : Option Counts). stamp_of o x) h ∙ sym (ap (λ b. if b then s.changes + 1 else stamp_in k.stamps x) e) ∙ sym (stamp_after k h)

stamps_kept : (r : Rules) (s : SessionState) (o : Option Timeline) (x : Slot) → IsTrue (stands (tree_of r) (moved_by r s o).timeline.now x)
    → touches r.accepted s.timeline.now (moved_by r s o).timeline.now x ≡ false → stamp_of s.counts x ≡ stamp_of (moved_by r s o).counts x
stamps_kept r s None x stands_there e = refl
stamps_kept r s (Some to) x stands_there e = stamp_kept r s to x stands_there e

pub untouched_keep_all : UntouchedKeepAll
untouched_keep_all r is s t c said fit_s fit_t e x stands_there untouched =
    let leads = (accepted_step r s t c said e).1.1 in (
      untouched_keeps (names_of r.checks) r.accepted is s.timeline.now t.timeline.now fit_s fit_t x stands_there untouched,
      stamps_kept r s (timeline_by (tree_of r) s.timeline c) x
          (subst (λ (u : SessionState). IsTrue (stands (tree_of r) u.timeline.now x)) leads stands_there)
          (subst (λ (u : SessionState). touches r.accepted s.timeline.now u.timeline.now x ≡ false) leads untouched)
          ∙ ap (λ (u : SessionState). stamp_of u.counts x) (sym leads),
    )

pub touched_have_number : TouchedHaveNumber
touched_have_number r s t c said k is e has x stands_there touched =
    let to = changes_move (tree_of r) s.timeline c is in
    let leads = (accepted_step r s t c said e).1.1 ∙ ap (moved_by r s) to.1 in (
      ap (λ (u : SessionState). stamp_of u.counts x) leads
          ∙ stamp_after r s to.0 x (subst (λ (u : SessionState). IsTrue (stands (tree_of r) u.timeline.now x)) leads stands_there) k has
          ∙ ap (λ b. if b then s.changes + 1 else stamp_in k.stamps x) (subst (λ (u : SessionState). IsTrue (touches r.accepted s.timeline.now u.timeline.now x)) leads touched),
      ap (λ (u : SessionState). u.changes) leads,
    )
