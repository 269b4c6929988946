use Rattle.fact_graph_c.specs.DeskOpenings.{OpensDesk}
use Rattle.fact_graph_c.specs.Openings.{NotOpened}
use Rattle.fact_graph_c.proofs.DeskCallLaws.{tells_desk}
use Rattle.fact_graph_c.proofs.desk_exports.fact_graph_desk_open.Goals as goal

pub returns-clause-begun : goal.returns-clause-begun
returns-clause-begun c = tells_desk (OpensDesk c.args.dictionary.now) (NotOpened c.args.dictionary.now) c.args.desk.now c.hand_out.new.desk c.hand_out.new.fault c.open_desk.result c.open_desk.ensures.opened c.open_desk.ensures.refused c.hand_out.ensures.begun c.hand_out.ensures.output
