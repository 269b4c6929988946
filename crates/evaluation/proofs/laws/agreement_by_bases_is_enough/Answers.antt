use Rattle.evaluation.specs.ByBases.{Passes}
use Rattle.evaluation.proofs.Mentions.{coincide_in, weigh_same_in}
use Rattle.evaluation.proofs.laws.agreement_by_bases_is_enough.Goals as goal

pub returns : goal.returns
returns g c = record {
  result = λ q w on k. coincide_in (Passes q) (Passes w) on (Passes k);
  weight = λ q w on k. weigh_same_in (Passes q) (Passes w) on (Passes k);
}
