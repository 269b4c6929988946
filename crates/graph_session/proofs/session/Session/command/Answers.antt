use Rattle.graph_session.specs.Rules.{rules}
use Rattle.graph_session.specs.SessionView.{session_state}
use Rattle.graph_session.specs.Step.{refusal, reply}
use Rattle.graph_session.proofs.StepLaws.{asked_refused}
use Rattle.graph_session.proofs.session.Session.command.Goals as goal

pub returns-in-Get-clause-refused : goal.returns-in-Get-clause-refused
returns-in-Get-clause-refused g c =
    let s = c.args.self.now in
    asked_refused (refusal (rules s.dict) (session_state s) c.args.command.now) (reply (rules s.dict) (session_state s) c.args.command.now) c.ask.result c.ask.ensures
