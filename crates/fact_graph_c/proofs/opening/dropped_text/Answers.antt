use Rattle.std.proofs.Common.{◌∙◌, List, ℕ, ◌++◌, ap}
use Rattle.fact_graph_c.proofs.TextLaws.{put_whole}
use Rattle.fact_graph_c.proofs.opening.dropped_text.Goals as goal

pub returns-in-Ok : goal.returns-in-Ok
returns-in-Ok c = λ text is. put_whole _ _ _ _ text (c.in-Ok.ensures.text text is).sent ∙ ap (λ (t : List ℕ). t ++ text) c.new-text.ensures
