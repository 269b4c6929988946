use Rattle.node_eval.proofs.DecideLaws.{cells-decide}
use Rattle.node_eval.proofs.laws.cells_decide.Goals as goal

pub returns : goal.returns
returns c = cells-decide
