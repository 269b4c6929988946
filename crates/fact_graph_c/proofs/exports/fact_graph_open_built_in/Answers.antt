use Rattle.fact_graph_c.specs.Openings.{NotBrought, OpensBuiltIn}
use Rattle.fact_graph_c.proofs.CallLaws.{tells}
use Rattle.fact_graph_c.proofs.exports.fact_graph_open_built_in.Goals as goal

pub returns-clause-begun : goal.returns-clause-begun
returns-clause-begun c = tells (OpensBuiltIn c.args.words.now) (NotBrought c.args.words.now) c.args.graph.now c.hand_out.new.graph c.hand_out.new.fault c.open_built_in.result c.open_built_in.ensures.opened c.open_built_in.ensures.refused c.hand_out.ensures.begun c.hand_out.ensures.output
