-- The views of the variants of expressions and of nodes.
use Rattle.dict_source.proofs.Views.{views as sources}
use Rattle.node_eval.proofs.Views.{views as nodes}

pub ruleset views = (sources, nodes)
