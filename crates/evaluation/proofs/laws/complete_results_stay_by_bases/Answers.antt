use Rattle.evaluation.specs.ByBases.{Passes}
use Rattle.evaluation.proofs.Mentions.{over_keeps_in}
use Rattle.evaluation.proofs.laws.complete_results_stay_by_bases.Goals as goal

pub returns : goal.returns
returns g c = λ q w on k. over_keeps_in (Passes q) (Passes w) on (Passes k)
