use Rattle.fact_graph_c.specs.Openings.{NotLoaded, Loads}
use Rattle.fact_graph_c.proofs.CallLaws.{tells}
use Rattle.fact_graph_c.proofs.exports.fact_graph_load.Goals as goal

pub returns-clause-begun : goal.returns-clause-begun
returns-clause-begun c = tells (Loads c.args.dictionary.now c.args.saved.now) (NotLoaded c.args.dictionary.now c.args.saved.now) c.args.graph.now c.hand_out.new.graph c.hand_out.new.fault c.open.result c.open.ensures.started c.open.ensures.refused c.hand_out.ensures.begun c.hand_out.ensures.output
