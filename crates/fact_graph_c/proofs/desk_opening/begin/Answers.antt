use Rattle.fact_graph_c.proofs.DeskOpeningLaws.{begins_desk, is_desk_begun}
use Rattle.fact_graph_c.proofs.desk_opening.begin.Goals as goal

pub returns-in-Ok : goal.returns-in-Ok
returns-in-Ok c = record {
  begun = begins_desk _ _ c.unused.result c.boxed.result
      (is_desk_begun _ _ _ c.unused.result c.in-Ok.ensures.dict c.in-Ok.ensures.begun c.unused.ensures.desk c.unused.ensures.open c.unused.ensures.text)
      c.boxed.ensures.same;
  memory = c.boxed.ensures.memory;
}
