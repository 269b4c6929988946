use Rattle.std.proofs.Common.{◌∙◌}
use Rattle.fact_graph_c.proofs.OpeningLaws.{begins, is_begun}
use Rattle.fact_graph_c.proofs.opening.begin.Goals as goal

pub returns-in-Ok : goal.returns-in-Ok
returns-in-Ok c = record {
  begun = begins _ _ _ c.unused.result c.boxed.result
      (is_begun _ _ _ c.unused.result (c.unused.ensures.session ∙ c.in-Ok.ensures) c.unused.ensures.unwatched c.unused.ensures.open c.unused.ensures.text)
      c.boxed.ensures.same;
  memory = c.boxed.ensures.memory;
}
