use Rattle.std.proofs.Common.{◌≡◌, ◌+◌, ◌≤◌, Some, ap, sym, ◌∙◌, subst, IsTrue}
use Rattle.std.specs.Prelude.{Ok}
use Rattle.answers.specs.Answered.{Answered}
use Rattle.answers.specs.Meaning.{change}
use Rattle.session_undo.specs.Directions.{reversed}
use Rattle.session_undo.specs.History.{place}
use Rattle.session_undo.specs.Timeline.{Timeline, timeline}
use Rattle.dictionary.specs.AcceptedParts.{accepted}
use Rattle.dictionary.specs.Engines.{AreMarkedBy}
use Rattle.dict_meaning.specs.Fits.{AnswersFit}
use Rattle.graph_session.specs.Moves.{step_command, timeline_stepped}
use Rattle.graph_session.specs.Rules.{rules}
use Rattle.graph_session.specs.SessionView.{SessionView, session_state, moved_to}
use Rattle.graph_session.specs.Step.{most_steps, step}
use Rattle.graph_session.specs.declared.reply.Reply.TheVariants.{Done}
use Rattle.graph_session.proofs.SessionViewLaws.{shown, shown_moved, shown_same}
use Rattle.graph_session.proofs.SoundLaws.{again, newest_shown, there_sound, there_steps, there_timeline, there_undoes}
use Rattle.graph_session.proofs.StepLaws.{move_step_as}
use Rattle.graph_session.proofs.session.Session.go.Goals as goal

pub refresh-requires-clause-undone : goal.refresh-requires-clause-undone
refresh-requires-clause-undone g c =
    let q = place c.step_along.new.history c.step_along.new.answers in
    let newest = newest_shown (reversed c.args.direction) c.step_along.new.history c.step_along.new.answers (Some (change c.in-Some.undo.now)) c.in-Some.ensures in
    (there_undoes c.self.inside.dict c.args.direction _ q c.self.invariant.0 c.in-Ok.ensures.moved c.in-Ok.ensures.some (change c.in-Some.undo.now) newest).0

pub refresh-requires-clause-before : goal.refresh-requires-clause-before
refresh-requires-clause-before g c =
    let q = place c.step_along.new.history c.step_along.new.answers in
    let newest = newest_shown (reversed c.args.direction) c.step_along.new.history c.step_along.new.answers (Some (change c.in-Some.undo.now)) c.in-Some.ensures in
    let undone = (there_undoes c.self.inside.dict c.args.direction _ q c.self.invariant.0 c.in-Ok.ensures.moved c.in-Ok.ensures.some (change c.in-Some.undo.now) newest).1 in
    subst (g.E.FactEngine.stands_for c.self.inside.engine (accepted c.self.inside.dict)) (sym undone) c.self.invariant.1

pub refresh-requires-clause-fit_before : goal.refresh-requires-clause-fit_before
refresh-requires-clause-fit_before g c =
    let q = place c.step_along.new.history c.step_along.new.answers in
    let newest = newest_shown (reversed c.args.direction) c.step_along.new.history c.step_along.new.answers (Some (change c.in-Some.undo.now)) c.in-Some.ensures in
    let undone = (there_undoes c.self.inside.dict c.args.direction _ q c.self.invariant.0 c.in-Ok.ensures.moved c.in-Ok.ensures.some (change c.in-Some.undo.now) newest).1 in
    subst (AnswersFit (accepted c.self.inside.dict).tree) (sym undone) c.self.invariant.0.fit.now

pub refresh-requires-clause-fit_now : goal.refresh-requires-clause-fit_now
refresh-requires-clause-fit_now g c = (there_sound c.self.inside.dict c.args.direction _ _ c.self.invariant.0 c.in-Ok.ensures.moved c.in-Ok.ensures.some).fit.now

pub invariant_of-self-in-Ok-refresh : goal.invariant_of-self-in-Ok-refresh
invariant_of-self-in-Ok-refresh g c = (
  there_sound c.self.inside.dict c.args.direction _ _ c.self.invariant.0 c.in-Ok.ensures.moved c.in-Ok.ensures.some,
  c.in-Ok-refresh.ensures.stands,
  λ offered. (c.in-Ok-refresh.ensures.marked offered).changes ∙ ap (λ n. n + 1) (c.self.invariant.2 offered),
)

pub returns-in-Ok-refresh-clause-ok : goal.returns-in-Ok-refresh-clause-ok
returns-in-Ok-refresh-clause-ok g c =
    let k = c.self.inside.dict in
    let d = accepted k in
    let p = place c.self.inside.history c.self.inside.answers in
    let q = place c.step_along.new.history c.step_along.new.answers in
    let offered = g.E.FactEngine.STAMPS in
    let m = g.E.FactEngine.marks c.self.inside.engine in
    let n = g.E.FactEngine.marks c.refresh.new.self in
    let newest = newest_shown (reversed c.args.direction) c.step_along.new.history c.step_along.new.answers (Some (change c.in-Some.undo.now)) c.in-Some.ensures in
    let undone = (there_undoes k c.args.direction p q c.self.invariant.0 c.in-Ok.ensures.moved c.in-Ok.ensures.some (change c.in-Some.undo.now) newest).1 in
    let marked : IsTrue offered → AreMarkedBy d p.now q.now m n = λ o. subst (λ (a : Answered). AreMarkedBy d a q.now m n) undone (c.in-Ok-refresh.ensures.marked o) in
    let s = shown k (timeline p) c.self.inside.changes offered m in
    let left : SessionView = shown k (timeline q) (c.self.inside.changes + 1) offered n in
    let there : left ≡ moved_to s (timeline_stepped c.args.direction (timeline p)) =
    shown_moved k (timeline p) (timeline q) c.self.inside.changes offered m n c.self.invariant.2 marked
    ∙ ap (moved_to s) (there_timeline k c.args.direction p q c.self.invariant.0 c.in-Ok.ensures.moved c.in-Ok.ensures.some) in
    subst (λ (z : SessionView). step (rules z.dict) (session_state z) (step_command c.args.direction) ≡ Ok (Done, session_state left)) c.self.view_is (move_step_as (rules k) (session_state s) c.args.direction c.in-Ok.ensures.some (session_state left) (ap session_state there))

pub returns-in-Ok-refresh-clause-steps : goal.returns-in-Ok-refresh-clause-steps
returns-in-Ok-refresh-clause-steps g c =
    let q = place c.step_along.new.history c.step_along.new.answers in
    let newest = newest_shown (reversed c.args.direction) c.step_along.new.history c.step_along.new.answers (Some (change c.in-Some.undo.now)) c.in-Some.ensures in
    subst (λ (z : SessionView). c.refresh.new.steps ≤ c.args.steps.now + most_steps (g.E.FactEngine.most (accepted z.dict)) (rules z.dict) (session_state z) (step_command c.args.direction)) c.self.view_is
    (there_steps c.self.inside.dict c.args.direction _ q c.self.invariant.0 c.in-Ok.ensures.moved c.in-Ok.ensures.some (change c.in-Some.undo.now) newest (g.E.FactEngine.most (accepted c.self.inside.dict)) c.self.inside.changes _ _ _ c.in-Ok-refresh.ensures.steps)

pub step_against-requires-clause-kept : goal.step_against-requires-clause-kept
step_against-requires-clause-kept g c = (there_sound c.self.inside.dict c.args.direction _ _ c.self.invariant.0 c.in-Ok.ensures.moved c.in-Ok.ensures.some).kept

pub invariant_of-self-in-Err-refresh : goal.invariant_of-self-in-Err-refresh
invariant_of-self-in-Err-refresh g c =
    let k = c.self.inside.dict in
    let p = place c.self.inside.history c.self.inside.answers in
    let r = place c.step_against.new.history c.step_against.new.answers in
    let back = again k c.args.direction p _ c.self.invariant.0 c.in-Ok.ensures.moved c.in-Ok.ensures.some r c.step_against.ensures in
    let now : r.now ≡ p.now = ap (λ (t : Timeline). t.now) back.1 in (
      back.0,
      subst (g.E.FactEngine.stands_for c.refresh.new.self (accepted k)) (sym now) (c.in-Err-refresh.ensures.unchanged (accepted k) p.now c.self.invariant.1),
      λ offered. (c.in-Err-refresh.ensures.same_marks offered).changes ∙ c.self.invariant.2 offered,
    )

pub returns-in-Err-refresh-clause-unchanged : goal.returns-in-Err-refresh-clause-unchanged
returns-in-Err-refresh-clause-unchanged g c =
    let k = c.self.inside.dict in
    let p = place c.self.inside.history c.self.inside.answers in
    let r = place c.step_against.new.history c.step_against.new.answers in
    let offered = g.E.FactEngine.STAMPS in
    let m = g.E.FactEngine.marks c.self.inside.engine in
    let n = g.E.FactEngine.marks c.refresh.new.self in
    let back = again k c.args.direction p _ c.self.invariant.0 c.in-Ok.ensures.moved c.in-Ok.ensures.some r c.step_against.ensures in
    ap (λ (t : Timeline). shown k t c.self.inside.changes offered n) back.1
    ∙ shown_same k (timeline p) c.self.inside.changes offered m n c.in-Err-refresh.ensures.same_marks
    ∙ c.self.view_is

pub returns-in-Err-refresh-clause-steps : goal.returns-in-Err-refresh-clause-steps
returns-in-Err-refresh-clause-steps g c =
    let q = place c.step_along.new.history c.step_along.new.answers in
    let newest = newest_shown (reversed c.args.direction) c.step_along.new.history c.step_along.new.answers (Some (change c.in-Some.undo.now)) c.in-Some.ensures in
    subst (λ (z : SessionView). c.refresh.new.steps ≤ c.args.steps.now + most_steps (g.E.FactEngine.most (accepted z.dict)) (rules z.dict) (session_state z) (step_command c.args.direction)) c.self.view_is
    (there_steps c.self.inside.dict c.args.direction _ q c.self.invariant.0 c.in-Ok.ensures.moved c.in-Ok.ensures.some (change c.in-Some.undo.now) newest (g.E.FactEngine.most (accepted c.self.inside.dict)) c.self.inside.changes _ _ _ c.in-Err-refresh.ensures.steps)
