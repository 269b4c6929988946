use Rattle.dict_meaning.proofs.PickWeights.{pick_weighs}
use Rattle.dict_meaning.proofs.weight_laws.filters_weigh_by_their_members.Goals as goal

pub returns : goal.returns
returns c = pick_weighs
