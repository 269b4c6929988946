use Rattle.fact_graph_c.specs.DeskOpenings.{OpensDeskBuiltIn}
use Rattle.fact_graph_c.specs.Openings.{NotBrought}
use Rattle.fact_graph_c.proofs.DeskCallLaws.{tells_desk}
use Rattle.fact_graph_c.proofs.desk_exports.fact_graph_desk_open_built_in.Goals as goal

pub returns-clause-begun : goal.returns-clause-begun
returns-clause-begun c = tells_desk (OpensDeskBuiltIn c.args.words.now) (NotBrought c.args.words.now) c.args.desk.now c.hand_out.new.desk c.hand_out.new.fault c.open_desk_built_in.result c.open_desk_built_in.ensures.opened c.open_desk_built_in.ensures.refused c.hand_out.ensures.begun c.hand_out.ensures.output
