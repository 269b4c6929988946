use Rattle.std.proofs.Common.{◌+◌, ◌≤◌, ap, sym, ◌∙◌, subst, arith}
use Rattle.graph_session.specs.Rules.{rules}
use Rattle.graph_session.specs.SessionView.{session_state}
use Rattle.shared_desk.proofs.StepLaws.{place_appended}
use Rattle.shared_desk.proofs.desk.Desk.edit.Goals as goal

pub invariant_of-self-in-Ok : goal.invariant_of-self-in-Ok
invariant_of-self-in-Ok g c =
    let v = c.self.inside.session in
    let there = place_appended (rules v.dict) (session_state v) (session_state c.command.new.self) c.args.command.now c.in-Ok.reply c.requires.appends c.in-Ok.ensures.ok in
    let low = c.self.invariant.1 in
    (ap (λ n. n + 1) c.self.invariant.0 ∙ sym there.0, subst (λ n. c.self.inside.place + 1 ≤ n) (sym there.1) (omega (arith, low)))
