use Rattle.operations.proofs.ManyLaws.{many_from-start}
use Rattle.operations.proofs.laws.many_folds_give_the_nodes.Goals as goal

pub returns : goal.returns
returns c = many_from-start
