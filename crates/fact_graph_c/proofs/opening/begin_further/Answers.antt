use Rattle.std.proofs.Common.{◌∙◌}
use Rattle.fact_graph_c.proofs.OpeningLaws.{begins, is_begun}
use Rattle.fact_graph_c.proofs.opening.begin_further.Goals as goal

pub returns-in-Ok-clause-begun : goal.returns-in-Ok-clause-begun
returns-in-Ok-clause-begun c =
    begins _ _ _ c.unused.result c.boxed.result
    (is_begun _ _ _ c.unused.result (c.unused.ensures.session ∙ c.in-Ok.ensures.begun) c.unused.ensures.unwatched c.unused.ensures.open (c.unused.ensures.text ∙ c.new.ensures))
    c.boxed.ensures.same
