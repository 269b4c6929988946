use Rattle.evaluation.proofs.OrderLaws.{complete-stays, complete-stays-tested}
use Rattle.evaluation.proofs.laws.complete_results_stay.Goals as goal

pub returns : goal.returns
returns g c = record { stays = complete-stays; tested = complete-stays-tested }
