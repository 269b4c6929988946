use Rattle.std.proofs.Common.{◌≡◌, ◌+◌, ◌≤◌, ℕ, Some, None, ap, sym, ◌∙◌, subst}
use Rattle.answers.specs.Meaning.{answered, change}
use Rattle.dictionary.specs.AcceptedParts.{accepted}
use Rattle.graph_session.specs.Changes.{change_of, change_refusals, change_reply}
use Rattle.graph_session.specs.Refusals.{first_of}
use Rattle.graph_session.specs.Rules.{rules, tree_of}
use Rattle.graph_session.specs.SessionView.{SessionView, session_state}
use Rattle.graph_session.proofs.AllowedLaws.{can_be_made}
use Rattle.graph_session.proofs.StepLaws.{change_step_as, change_steps}
use Rattle.graph_session.proofs.session.Session.edit.Goals as goal

pub change-requires-clause-made : goal.change-requires-clause-made
change-requires-clause-made g c =
    rw (← c.self.view_is) (can_be_made (rules c.self.inside.dict) (answered c.self.inside.answers) c.self.invariant.0.fit.now c.args.command.now (change c.in-Ok.edit) c.in-Ok.ensures.change c.in-Ok.ensures.allowed)

pub returns-in-Ok-change-clause-ok : goal.returns-in-Ok-change-clause-ok
returns-in-Ok-change-clause-ok g c =
    let s = c.args.self.now in
    let made = subst (λ (z : SessionView). change_of (tree_of (rules z.dict)) c.args.command.now ≡ Some (change c.in-Ok.edit)) c.self.view_is c.in-Ok.ensures.change in
    let allowed = subst (λ (z : SessionView). first_of (change_refusals (rules z.dict) z.timeline.now c.args.command.now) ≡ None) c.self.view_is c.in-Ok.ensures.allowed in
    let replied = subst (λ (z : SessionView). c.change_reply.result ≡ change_reply z.timeline.now.next c.args.command.now) c.self.view_is
    (c.change_reply.ensures ∙ ap (λ (n : ℕ). change_reply n c.args.command.now) c.next_number-number.ensures.number) in
    change_step_as (rules s.dict) (session_state s) c.args.command.now (change c.in-Ok.edit) made allowed c.change_reply.result (session_state c.change.new.self) replied (ap session_state c.in-Ok-change.ensures.ok)

pub returns-in-Ok-change-clause-steps : goal.returns-in-Ok-change-clause-steps
returns-in-Ok-change-clause-steps g c =
    let s = c.args.self.now in
    let made = subst (λ (z : SessionView). change_of (tree_of (rules z.dict)) c.args.command.now ≡ Some (change c.in-Ok.edit)) c.self.view_is c.in-Ok.ensures.change in
    let allowed = subst (λ (z : SessionView). first_of (change_refusals (rules z.dict) z.timeline.now c.args.command.now) ≡ None) c.self.view_is c.in-Ok.ensures.allowed in
    let most = change_steps (rules s.dict) (session_state s) c.args.command.now (change c.in-Ok.edit) made allowed (g.E.FactEngine.most (accepted s.dict)) in
    subst (λ (n : ℕ). c.change.new.steps ≤ c.args.steps.now + n) (sym most) c.in-Ok-change.ensures.steps
