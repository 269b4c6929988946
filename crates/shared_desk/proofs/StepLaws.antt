-- What a step of a desk does to the session.
use Rattle.std.proofs.Common.{◌≡◌, ℕ, ◌+◌, ◌≤◌, Bool, true, false, not, List, [], ◌∷◌, ◌++◌, Option, Some, None, is_none, is_some, refl, sym, ap, ◌∙◌, subst, arith}
use Rattle.std.specs.Prelude.{IfOk, OnErr, Result, Ok, Err, option_map}
use Rattle.std.specs.FinMap as map
use Rattle.fact_paths.specs.declared.slot_path.SlotPath.{SlotPath}
use Rattle.script_lines.specs.declared.command.Command.{Command}
use Rattle.script_lines.specs.declared.command.Command.TheVariants as commands
use Rattle.dict_source.specs.Dictionary.{Dictionary as Tree}
use Rattle.answers.specs.Answered.{Answered, value_of}
use Rattle.answers.specs.declared.edit.Side.TheVariants.{Answer, Override}
use Rattle.dict_meaning.specs.Fits.{is_answered_by, is_list, is_overridden_by}
use Rattle.session_undo.specs.Timeline.{Timeline}
use Rattle.graph_session.specs.Judging.{value_spelled}
use Rattle.graph_session.specs.Refusals.{first_of as first_session, slot_refusals, value_refusals, when}
use Rattle.graph_session.specs.Naming.{fact_of, slot_of}
use Rattle.graph_session.specs.Rules.{Rules, tree_of}
use Rattle.graph_session.specs.SessionView.{SessionState, SessionView, session_state, moved, view_at}
use Rattle.graph_session.specs.Step.{is_change, moved_by, refusal, reply, step, timeline_by}
use Rattle.graph_session.specs.declared.reply.Refusal.{Refusal}
use Rattle.graph_session.specs.declared.reply.Refusal.TheVariants.{AlreadyOpen, BadValue, NoOverride, NotAnswered, WrongKind}
use Rattle.graph_session.specs.declared.reply.Reply.{Reply}
use Rattle.graph_session.proofs.StepLaws.{accepted_step, changes_move, questions_stay}
use Rattle.shared_desk.specs.Desk.{Desk, absent_refusals, appends, session_state_after, desk_after, desk_refusal, desk_step, early, place_of, shown}
use Rattle.shared_desk.specs.Refusals.{Refused, RefusedBut, decided, first_of, wants_memory}
use Rattle.shared_desk.specs.declared.refusal.DeskRefusal.{DeskRefusal}
use Rattle.shared_desk.specs.declared.refusal.DeskRefusal.TheVariants.{Session}

-- ---- where an accepted command leads

pub change_leads : (r : Rules) (s : SessionState) (c : Command) → is_change c ≡ true → (to : Timeline) × (session_state_after r s c ≡ moved r.accepted s to)
change_leads r s c e = let to = changes_move (tree_of r) s.timeline c e in (to.0, ap (moved_by r s) to.1)

pub question_leads : (r : Rules) (s : SessionState) (c : Command) → is_change c ≡ false → session_state_after r s c ≡ s
question_leads r s c e = ap (moved_by r s) (questions_stay (tree_of r) s.timeline c e)

-- ---- the place

append_leads : (d : Tree) (t : Timeline) (c : Command) → appends c ≡ true → (a : Answered) × (timeline_by d t c ≡ Some (record { before = t.now ∷ t.before; now = a; after = [] }))
append_leads d t commands.Undo e = absurd cc
append_leads d t commands.Redo e = absurd cc
append_leads d t (commands.Get path) e = absurd cc
append_leads d t (commands.Final path) e = absurd cc
append_leads d t (commands.Stamp path) e = absurd cc
append_leads d t commands.Touched e = absurd cc
append_leads d t (commands.Missing path) e = absurd cc
append_leads d t (commands.Watch name path) e = absurd cc
append_leads d t (commands.Unwatch name path) e = absurd cc
append_leads d t commands.Quit e = absurd cc
append_leads d t c e = (_, refl)

-- after an entry was appended
pub place_appended : (r : Rules) (s t : SessionState) (c : Command) (said : Reply) → appends c ≡ true → step r s c ≡ Ok (said, t)
    → (place_of t ≡ place_of s + 1) × (t.changes ≡ s.changes + 1)
place_appended r s t c said is e =
    let to = append_leads (tree_of r) s.timeline c is in
    let leads = (accepted_step r s t c said e).1.1 ∙ ap (moved_by r s) to.1 in
    (ap place_of leads ∙ (omega arith), ap (λ (u : SessionState). u.changes) leads)

-- what shows a slot, or changes nothing otherwise, leaves the state
pub asked_session_state : (r : Rules) (v w : SessionView) (c : Command) (answer : Result Reply Refusal) → is_change c ≡ false → IfOk answer (λ said. step r (session_state v) c ≡ Ok (said, session_state w)) → OnErr answer (w ≡ v) → session_state w ≡ session_state v
asked_session_state r v w c (Ok said) is ok same = (accepted_step r (session_state v) (session_state w) c said ok).1.1 ∙ question_leads r (session_state v) c is
asked_session_state r v w c (Err q) is ok same = ap session_state same

pub asked_place : (v w : SessionView) (n : ℕ) → session_state w ≡ session_state v → (n ≡ place_of (session_state v)) × (n ≤ v.changes) → (n ≡ place_of (session_state w)) × (n ≤ w.changes)
asked_place v w n same h = subst (λ (s : SessionState). (n ≡ place_of s) × (n ≤ s.changes)) (sym same) h

pub shows_no_change : (c : Command) (path : SlotPath) → shown c ≡ Some path → is_change c ≡ false
shows_no_change (commands.Get x) path e = refl
shows_no_change (commands.Final x) path e = refl
shows_no_change (commands.Stamp x) path e = refl
shows_no_change c path e = absurd cc

pub shows_appends_none : (c : Command) (path : SlotPath) → shown c ≡ Some path → appends c ≡ false
shows_appends_none (commands.Get x) path e = refl
shows_appends_none (commands.Final x) path e = refl
shows_appends_none (commands.Stamp x) path e = refl
shows_appends_none c path e = absurd cc

-- a question leaves the session as it was
pub question_stays : (r : Rules) (v w : SessionView) (c : Command) (said : Reply) → is_change c ≡ false → step r (session_state v) c ≡ Ok (said, session_state w) → w.dict ≡ v.dict → w ≡ v
question_stays r v w c said is e f =
    let same : session_state w ≡ session_state v = (accepted_step r (session_state v) (session_state w) c said e).1.1 ∙ question_leads r (session_state v) c is in
    λ i. view_at (f i) (same i)

-- ---- refusals

pub first_one : (o : Option DeskRefusal) → first_of (o ∷ []) ≡ o
first_one None = refl
first_one (Some q) = refl

refused_but : (b : Bool) (q : DeskRefusal) (o : Option DeskRefusal) → o ≡ Some q → RefusedBut b q o
refused_but true q o e = tt
refused_but false q o e = e

pub refused_self : (q : DeskRefusal) (o : Option DeskRefusal) → o ≡ Some q → Refused q o
refused_self q o e = refused_but (wants_memory q) q o e

-- where no early refusal holds, it is the session's
pub late_refusal : (r : Rules) (d : Desk) (p : ℕ) (c : Command) → early r d p c ≡ None → desk_refusal r d p c ≡ option_map Session (refusal r d.session_state c)
late_refusal r d p c e = ap (λ (o : Option DeskRefusal). first_of (o ∷ option_map Session (refusal r d.session_state c) ∷ [])) e ∙ first_one (option_map Session (refusal r d.session_state c))

pub early_refusal : (r : Rules) (d : Desk) (p : ℕ) (c : Command) (q : DeskRefusal) → early r d p c ≡ Some q → desk_refusal r d p c ≡ Some q
early_refusal r d p c q e = ap (λ (o : Option DeskRefusal). first_of (o ∷ option_map Session (refusal r d.session_state c) ∷ [])) e

-- and so the step is the session's
pub late_step : (r : Rules) (d : Desk) (p : ℕ) (c : Command) (said : Reply) (t : SessionState) → early r d p c ≡ None → step r d.session_state c ≡ Ok (said, t) → desk_step r d p c ≡ Ok (said, desk_after r d p c)
late_step r d p c said t e f =
    let parts = accepted_step r d.session_state t c said f in
    ap (λ (o : Option DeskRefusal). decided o (reply r d.session_state c, desk_after r d p c)) (late_refusal r d p c e ∙ ap (option_map Session) parts.0)
    ∙ ap recorded (sym parts.1.0)
  where
    recorded : Reply → Result (Reply × Desk) DeskRefusal
    recorded x = Ok (x, desk_after r d p c)

first_after : (xs ys : List (Option Refusal)) (q : Refusal) → first_session xs ≡ Some q → first_session (xs ++ ys) ≡ Some q
first_after [] ys q e = absurd cc
first_after (None ∷ xs) ys q e = first_after xs ys q e
first_after (Some x ∷ xs) ys q e = e

-- an edit of a slot or a member that isn't there is refused for that by the session too
pub absent_first : (r : Rules) (s : SessionState) (c : Command) (q : Refusal) → first_session (absent_refusals r s.timeline.now c) ≡ Some q → refusal r s c ≡ Some q
absent_first r s (commands.Set path text) q e =
    let fact = fact_of (tree_of r) path in
    first_after (slot_refusals r s.timeline.now path) (when (not (is_answered_by (tree_of r) fact)) WrongKind ∷ value_refusals r fact text) q e
absent_first r s (commands.Clear path) q e =
    first_after (slot_refusals r s.timeline.now path) (when (not (is_answered_by (tree_of r) (fact_of (tree_of r) path))) WrongKind ∷ when (is_none (value_of Answer s.timeline.now (slot_of (tree_of r) path))) NotAnswered ∷ []) q e
absent_first r s (commands.OpenList path) q e =
    let fact = fact_of (tree_of r) path in
    first_after (slot_refusals r s.timeline.now path) (when (not (is_list (tree_of r) fact)) WrongKind ∷ when (is_some (map.get s.timeline.now.lists fact)) AlreadyOpen ∷ []) q e
absent_first r s (commands.Remove path member) q e =
    first_after (absent_refusals r s.timeline.now (commands.Remove path member)) (when (not (is_list (tree_of r) (fact_of (tree_of r) path))) WrongKind ∷ []) q e
absent_first r s (commands.Override path text) q e =
    let fact = fact_of (tree_of r) path in
    first_after (slot_refusals r s.timeline.now path) (when (not (is_overridden_by (tree_of r) fact)) WrongKind ∷ when (is_none (value_spelled (tree_of r) fact text)) BadValue ∷ []) q e
absent_first r s (commands.Release path) q e =
    first_after (slot_refusals r s.timeline.now path) (when (not (is_overridden_by (tree_of r) (fact_of (tree_of r) path))) WrongKind ∷ when (is_none (value_of Override s.timeline.now (slot_of (tree_of r) path))) NoOverride ∷ []) q e
absent_first r s c q e = absurd cc
