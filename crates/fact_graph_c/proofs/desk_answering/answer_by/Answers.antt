use Rattle.std.proofs.Common.{refl}
use Rattle.fact_graph_c.proofs.DeskAnsweringLaws.{desk_stays, desk_stays_over}
use Rattle.fact_graph_c.proofs.desk_answering.answer_by.Goals as goal

pub returns-then-engine : goal.returns-then-engine
returns-then-engine g c = record { answered = desk_stays_over _ _ _ c.if-engine.true c.clear.ensures refl c.if-engine.true; dict = refl }
