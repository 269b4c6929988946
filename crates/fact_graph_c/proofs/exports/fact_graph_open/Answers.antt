use Rattle.fact_graph_c.specs.Openings.{NotOpened, Opens}
use Rattle.fact_graph_c.proofs.CallLaws.{tells}
use Rattle.fact_graph_c.proofs.exports.fact_graph_open.Goals as goal

pub returns-clause-begun : goal.returns-clause-begun
returns-clause-begun c = tells (Opens c.args.dictionary.now) (NotOpened c.args.dictionary.now) c.args.graph.now c.hand_out.new.graph c.hand_out.new.fault c.open.result c.open.ensures.started c.open.ensures.refused c.hand_out.ensures.begun c.hand_out.ensures.output
