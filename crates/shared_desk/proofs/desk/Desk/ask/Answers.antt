use Rattle.graph_session.specs.Rules.{rules}
use Rattle.shared_desk.proofs.StepLaws.{asked_session_state, asked_place}
use Rattle.shared_desk.proofs.desk.Desk.ask.Goals as goal

pub invariant_of-self : goal.invariant_of-self
invariant_of-self g c =
    let v = c.self.inside.session in
    asked_place v c.command.new.self c.self.inside.place
    (asked_session_state (rules v.dict) v c.command.new.self c.args.command.now c.command.result c.requires.asks c.command.ensures.ok c.command.ensures.unchanged) c.self.invariant
