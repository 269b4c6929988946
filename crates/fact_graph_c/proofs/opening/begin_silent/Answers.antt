use Rattle.fact_graph_c.proofs.OpeningLaws.{begins_with}
use Rattle.fact_graph_c.proofs.opening.begin_silent.Goals as goal

pub returns-clause-begun : goal.returns-clause-begun
returns-clause-begun c = begins_with _ _ _ _ c.begin.result c.new.ensures c.begin.ensures.begun
