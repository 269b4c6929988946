use Rattle.evaluation.proofs.Coincide.{coincide, weigh_same}
use Rattle.evaluation.proofs.laws.agreement_is_enough.Goals as goal

pub returns : goal.returns
returns g c = record { result = coincide; weight = weigh_same }
