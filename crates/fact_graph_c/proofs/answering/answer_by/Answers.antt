use Rattle.std.proofs.Common.{refl}
use Rattle.fact_graph_c.proofs.AnsweringLaws.{stays_over}
use Rattle.fact_graph_c.proofs.answering.answer_by.Goals as goal

pub returns-then-engine : goal.returns-then-engine
returns-then-engine g c = record { answered = stays_over _ _ _ c.if-engine.true c.clear.ensures refl refl c.if-engine.true; dict = refl }
