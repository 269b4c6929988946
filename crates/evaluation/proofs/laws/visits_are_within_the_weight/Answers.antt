use Rattle.evaluation.proofs.VisitLaws.{some-visit, visits-within-weight}
use Rattle.evaluation.proofs.laws.visits_are_within_the_weight.Goals as goal

pub returns : goal.returns
returns g c = record { some = some-visit; most = visits-within-weight }
