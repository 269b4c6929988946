use Rattle.std.proofs.Common.{[], ◌∷◌, ◌++◌}
use Rattle.std.specs.Prelude.{codes}
use Rattle.fg_io.proofs.WritingLaws.{failed_before, wrote_behind}
use Rattle.session_lines.specs.Replies.{refusal_text}
use Rattle.fact_graph_c.proofs.dropped_lines.put_reason.Goals as goal

pub returns-in-Err : goal.returns-in-Err
returns-in-Err g c = rw c.in-Refused.is (failed_before _ _ (codes " ") (refusal_text c.in-Refused.refusal ++ 10 ∷ []) c.in-Err.ensures)

pub returns-in-Ok : goal.returns-in-Ok
returns-in-Ok g c = rw c.in-Refused.is (wrote_behind _ _ _ (codes " ") (refusal_text c.in-Refused.refusal ++ 10 ∷ []) c.put_refusal.result c.in-Ok.ensures c.put_refusal.ensures)
