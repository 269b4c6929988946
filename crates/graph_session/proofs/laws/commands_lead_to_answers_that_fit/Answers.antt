use Rattle.graph_session.proofs.FitLaws.{commands_lead_to_fit}
use Rattle.graph_session.proofs.laws.commands_lead_to_answers_that_fit.Goals as goal

pub returns : goal.returns
returns c = commands_lead_to_fit
