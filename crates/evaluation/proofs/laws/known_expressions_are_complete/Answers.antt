use Rattle.evaluation.proofs.Sureness.{sure, sure-find}
use Rattle.evaluation.proofs.laws.known_expressions_are_complete.Goals as goal

pub returns : goal.returns
returns g c = record { sure = sure; find = sure-find }
