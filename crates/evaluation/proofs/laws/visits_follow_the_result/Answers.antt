use Rattle.evaluation.specs.ByBases.{Passes}
use Rattle.evaluation.proofs.VisitLaws.{resolved-visits, visit-same, visit-same-in}
use Rattle.evaluation.proofs.laws.visits_follow_the_result.Goals as goal

pub returns : goal.returns
returns g c = record {
  agreement = visit-same;
  bases = λ q w on k. visit-same-in (Passes q) (Passes w) on (Passes k);
  resolved = resolved-visits;
}
