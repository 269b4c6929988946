use Rattle.fact_graph_c.specs.DeskOpenings.{LoadsDesk}
use Rattle.fact_graph_c.specs.Openings.{NotLoaded}
use Rattle.fact_graph_c.proofs.DeskCallLaws.{tells_desk}
use Rattle.fact_graph_c.proofs.desk_exports.fact_graph_desk_load.Goals as goal

pub returns-clause-begun : goal.returns-clause-begun
returns-clause-begun c = tells_desk (LoadsDesk c.args.dictionary.now c.args.saved.now) (NotLoaded c.args.dictionary.now c.args.saved.now) c.args.desk.now c.hand_out.new.desk c.hand_out.new.fault c.load_desk.result c.load_desk.ensures.loaded c.load_desk.ensures.refused c.hand_out.ensures.begun c.hand_out.ensures.output
