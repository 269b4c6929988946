-- From the first refusal, or from none, to the step that a command makes.
use Rattle.std.proofs.Common.{◌≡◌, ℕ, Bool, true, false, not, if◌then◌else◌, List, [], ◌∷◌, ◌++◌, Option, Some, None, is_some, refl, sym, ap, ◌∙◌}
use Rattle.std.specs.Prelude.{IfErr, Result, Ok, Err}
use Rattle.fact_paths.specs.declared.slot_path.SlotPath.{SlotPath}
use Rattle.fact_values.specs.declared.slot.Slot.{Slot}
use Rattle.script_lines.specs.declared.command.Command.{Command}
use Rattle.script_lines.specs.declared.command.Command.TheVariants as commands
use Rattle.dict_source.specs.Dictionary.{Dictionary as Tree}
use Rattle.answers.specs.Answered.{Answered}
use Rattle.answers.specs.Change.{Change, applied}
use Rattle.session_undo.specs.Timeline.{Timeline}
use Rattle.session_undo.specs.declared.direction.Direction.{Direction}
use Rattle.session_undo.specs.declared.direction.Direction.TheVariants.{Back, Forth}
use Rattle.dict_meaning.specs.Fits.{is_answered_by}
use Rattle.graph_session.specs.Changes.{change_of, change_refusals, change_reply}
use Rattle.graph_session.specs.Moves.{end_refusal, is_end, step_command, timeline_stepped}
use Rattle.graph_session.specs.Naming.{fact_of, is_unknown, lacks_member, slot_of}
use Rattle.graph_session.specs.Refusals.{Refused, decided, first_of, is_empty, set_refusals, slot_found, slot_refusals, value_refusals, when}
use Rattle.graph_session.specs.Rules.{Rules, tree_of}
use Rattle.graph_session.specs.SessionView.{SessionState, moved}
use Rattle.graph_session.specs.Step.{is_change, most_steps, moved_by, refusal, reply, step, steps_to, timeline_by, with_change}
use Rattle.graph_session.specs.declared.reply.Refusal.{Refusal}
use Rattle.graph_session.specs.declared.reply.Refusal.TheVariants.{UnknownFact, NoMember, WrongKind, NothingToUndo, NothingToRedo, NoMemory}
use Rattle.graph_session.specs.declared.reply.Reply.{Reply}
use Rattle.graph_session.specs.declared.reply.Reply.TheVariants.{Done}

-- ---- what comes of a decision

pub decided_ok : {A : Type 0} (o : Option Refusal) (x y : A) → ◌≡◌ {A = Result A Refusal} (Ok y) (decided o x) → (o ≡ None) × (y ≡ x)
decided_ok None x y e = (refl, cc)
decided_ok (Some r) x y e = absurd cc

pub decided_err : {A : Type 0} (o : Option Refusal) (x : A) (r : Refusal) → ◌≡◌ {A = Result A Refusal} (Err r) (decided o x) → o ≡ Some r
decided_err None x r e = absurd cc
decided_err (Some q) x r e = cc

-- ---- where an accepted command leads

-- it isn't refused, and leads to its reply and state
pub accepted_step : (r : Rules) (s t : SessionState) (c : Command) (said : Reply) → step r s c ≡ Ok (said, t)
    → (refusal r s c ≡ None) × ((said ≡ reply r s c) × (t ≡ moved_by r s (timeline_by (tree_of r) s.timeline c)))
accepted_step r s t c said e =
    let parts = decided_ok (refusal r s c) (reply r s c, moved_by r s (timeline_by (tree_of r) s.timeline c)) (said, t) (sym e) in
    (parts.0, (ap (λ (p : Reply × SessionState). p.0) parts.1, ap (λ (p : Reply × SessionState). p.1) parts.1))

-- a change leads along the timeline
pub changes_move : (d : Tree) (t : Timeline) (c : Command) → is_change c ≡ true → (to : Timeline) × (timeline_by d t c ≡ Some to)
changes_move d t (commands.Get path) e = absurd cc
changes_move d t (commands.Final path) e = absurd cc
changes_move d t (commands.Stamp path) e = absurd cc
changes_move d t commands.Touched e = absurd cc
changes_move d t (commands.Missing path) e = absurd cc
changes_move d t (commands.Watch name path) e = absurd cc
changes_move d t (commands.Unwatch name path) e = absurd cc
changes_move d t commands.Quit e = absurd cc
changes_move d t c e = (_, refl)

pub questions_stay : (d : Tree) (t : Timeline) (c : Command) → is_change c ≡ false → timeline_by d t c ≡ None
questions_stay d t (commands.Set path text) e = absurd cc
questions_stay d t (commands.Clear path) e = absurd cc
questions_stay d t (commands.OpenList path) e = absurd cc
questions_stay d t (commands.Add path) e = absurd cc
questions_stay d t (commands.Remove path member) e = absurd cc
questions_stay d t (commands.Override path text) e = absurd cc
questions_stay d t (commands.Release path) e = absurd cc
questions_stay d t commands.Undo e = absurd cc
questions_stay d t commands.Redo e = absurd cc
questions_stay d t c e = refl

-- ---- where the slot is found, the first refusal is one of the rest

pub found_then : (k : Rules) (a : Answered) (path : SlotPath) (s : Slot) (rest : List (Option Refusal)) → ◌≡◌ {A = Result Slot Refusal} (Ok s) (slot_found k a path)
    → (first_of (slot_refusals k a path ++ rest) ≡ first_of rest) × (s ≡ slot_of (tree_of k) path)
found_then k a path s rest e = at (is_unknown (tree_of k) path) (lacks_member (tree_of k) a path) e
  where
    at : (u l : Bool) → ◌≡◌ {A = Result Slot Refusal} (Ok s) (decided (first_of (when u UnknownFact ∷ when l NoMember ∷ [])) (slot_of (tree_of k) path))
        → (first_of (when u UnknownFact ∷ when l NoMember ∷ rest) ≡ first_of rest) × (s ≡ slot_of (tree_of k) path)
    at true l e = absurd cc
    at false true e = absurd cc
    at false false e = (refl, cc)

-- of `set`, where the fact may have an answer, one of the value's
pub set_then : (k : Rules) (a : Answered) (path : SlotPath) (text : List ℕ) (s : Slot) → ◌≡◌ {A = Result Slot Refusal} (Ok s) (slot_found k a path) → is_answered_by (tree_of k) s.fact ≡ true
    → first_of (set_refusals k a path text) ≡ first_of (value_refusals k s.fact text)
set_then k a path text s e h =
    let f = found_then k a path s (when (not (is_answered_by (tree_of k) (fact_of (tree_of k) path))) WrongKind ∷ value_refusals k (fact_of (tree_of k) path) text) e in
    f.0 ∙ at (fact_of (tree_of k) path) (ap (λ (t : Slot). t.fact) f.1)
  where
    at : (n : ℕ) → s.fact ≡ n → first_of (when (not (is_answered_by (tree_of k) n)) WrongKind ∷ value_refusals k n text) ≡ first_of (value_refusals k s.fact text)
    at n same = ap (λ (m : ℕ). first_of (when (not (is_answered_by (tree_of k) m)) WrongKind ∷ value_refusals k m text)) (sym same)
        ∙ ap (λ (b : Bool). first_of (when (not b) WrongKind ∷ value_refusals k s.fact text)) h

-- ---- refusals

refused_as : (r : Refusal) (o : Option Refusal) → o ≡ Some r → Refused r o
refused_as NoMemory o e = tt
refused_as r o e = e

-- of a decision, where it is another command's
pub refused_by : {A : Type 0} (o : Option Refusal) (x : A) (r : Refusal) → ◌≡◌ {A = Result A Refusal} (Err r) (decided o x) → Refused r o
refused_by o x r e = refused_as r o (decided_err o x r e)

-- ---- commands that make a change

pub refusal_of_change : (k : Rules) (s : SessionState) (c : Command) → is_some (change_of (tree_of k) c) ≡ true → refusal k s c ≡ first_of (change_refusals k s.timeline.now c)
refusal_of_change k s commands.Quit e = absurd cc
refusal_of_change k s c e = cc

reply_of_change : (k : Rules) (s : SessionState) (c : Command) (x : Change) → change_of (tree_of k) c ≡ Some x → reply k s c ≡ change_reply s.timeline.now.next c
reply_of_change k s commands.Quit x e = absurd cc
reply_of_change k s c x e = cc

timeline_of_change : (k : Rules) (s : SessionState) (c : Command) (x : Change) → change_of (tree_of k) c ≡ Some x → timeline_by (tree_of k) s.timeline c ≡ Some (with_change s.timeline x)
timeline_of_change k s commands.Quit x e = absurd cc
timeline_of_change k s c x e = cc

-- what a command that isn't refused comes to
pub step_by : (k : Rules) (s : SessionState) (c : Command) (r : Reply) (o : Option Timeline) → refusal k s c ≡ None → reply k s c ≡ r → timeline_by (tree_of k) s.timeline c ≡ o → step k s c ≡ Ok (r, moved_by k s o)
step_by k s c r o h e t =
    ap (λ (q : Option Refusal). decided q (reply k s c, moved_by k s (timeline_by (tree_of k) s.timeline c))) h
    ∙ ap (λ (q : Reply). done (q, moved_by k s (timeline_by (tree_of k) s.timeline c))) e
    ∙ ap (λ (q : Option Timeline). done (r, moved_by k s q)) t
  where
    done : Reply × SessionState → Result (Reply × SessionState) Refusal
    done p = Ok p

pub most_by : (most : Answered → Answered → ℕ) (k : Rules) (s : SessionState) (c : Command) (o : Option Timeline) → refusal k s c ≡ None → timeline_by (tree_of k) s.timeline c ≡ o → most_steps most k s c ≡ steps_to most s.timeline.now o
most_by most k s c o h t =
    ap (λ (q : Option Refusal). if is_some q then 0 else steps_to most s.timeline.now (timeline_by (tree_of k) s.timeline c)) h
    ∙ ap (steps_to most s.timeline.now) t

ok_pair : (r r' : Reply) (t t' : SessionState) → r ≡ r' → t ≡ t' → ◌≡◌ {A = Result (Reply × SessionState) Refusal} (Ok (r, t)) (Ok (r', t'))
ok_pair r r' t t' er et = λ i. Ok (er i, et i)

module _ (k : Rules) (s : SessionState) (c : Command) (x : Change) (e : change_of (tree_of k) c ≡ Some x) (h : first_of (change_refusals k s.timeline.now c) ≡ None) where
  pub change_step : step k s c ≡ Ok (change_reply s.timeline.now.next c, moved k.accepted s (with_change s.timeline x))
  change_step = step_by k s c (change_reply s.timeline.now.next c) (Some (with_change s.timeline x)) (refusal_of_change k s c (ap is_some e) ∙ h) (reply_of_change k s c x e) (timeline_of_change k s c x e)

  -- as a call leaves it
  pub change_step_as : (r : Reply) (t : SessionState) → r ≡ change_reply s.timeline.now.next c → t ≡ moved k.accepted s (with_change s.timeline x) → step k s c ≡ Ok (r, t)
  change_step_as r t er et = change_step ∙ ok_pair _ r _ t (sym er) (sym et)

  pub change_steps : (most : Answered → Answered → ℕ) → most_steps most k s c ≡ most s.timeline.now (applied x s.timeline.now)
  change_steps most = most_by most k s c (Some (with_change s.timeline x)) (refusal_of_change k s c (ap is_some e) ∙ h) (timeline_of_change k s c x e)

-- ---- steps along the history

when_true : (b : Bool) (r : Refusal) → b ≡ false → when b r ≡ None
when_true b r e = ap (λ (t : Bool). when t r) e

alone : (o : Option Refusal) → first_of (o ∷ []) ≡ o
alone None = refl
alone (Some r) = refl

refusal_of_move : (k : Rules) (s : SessionState) (direction : Direction) → refusal k s (step_command direction) ≡ when (is_end direction s.timeline) (end_refusal direction)
refusal_of_move k s Forth = alone (when (is_empty s.timeline.after) NothingToRedo)
refusal_of_move k s Back = alone (when (is_empty s.timeline.before) NothingToUndo)

reply_of_move : (k : Rules) (s : SessionState) (direction : Direction) → reply k s (step_command direction) ≡ Done
reply_of_move k s Forth = refl
reply_of_move k s Back = refl

timeline_of_move : (k : Rules) (s : SessionState) (direction : Direction) → timeline_by (tree_of k) s.timeline (step_command direction) ≡ Some (timeline_stepped direction s.timeline)
timeline_of_move k s Forth = refl
timeline_of_move k s Back = refl

pub move_step : (k : Rules) (s : SessionState) (direction : Direction) → is_end direction s.timeline ≡ false → step k s (step_command direction) ≡ Ok (Done, moved k.accepted s (timeline_stepped direction s.timeline))
move_step k s direction h = step_by k s (step_command direction) Done (Some (timeline_stepped direction s.timeline)) (refusal_of_move k s direction ∙ when_true (is_end direction s.timeline) (end_refusal direction) h) (reply_of_move k s direction) (timeline_of_move k s direction)

pub move_step_as : (k : Rules) (s : SessionState) (direction : Direction) → is_end direction s.timeline ≡ false → (t : SessionState) → t ≡ moved k.accepted s (timeline_stepped direction s.timeline) → step k s (step_command direction) ≡ Ok (Done, t)
move_step_as k s direction h t e = move_step k s direction h ∙ ok_pair Done Done _ t refl (sym e)

pub move_steps : (most : Answered → Answered → ℕ) (k : Rules) (s : SessionState) (direction : Direction) → is_end direction s.timeline ≡ false → most_steps most k s (step_command direction) ≡ most s.timeline.now (timeline_stepped direction s.timeline).now
move_steps most k s direction h = most_by most k s (step_command direction) (Some (timeline_stepped direction s.timeline)) (refusal_of_move k s direction ∙ when_true (is_end direction s.timeline) (end_refusal direction) h) (timeline_of_move k s direction)

-- ---- questions

pub asked_refused : {A : Type 0} (o : Option Refusal) (x : A) (answer : Result A Refusal) → answer ≡ decided o x → IfErr answer (λ r. Refused r o)
asked_refused o x (Ok y) e = tt
asked_refused o x (Err r) e = refused_by o x r e
