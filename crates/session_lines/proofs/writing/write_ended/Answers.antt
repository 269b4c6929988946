use Rattle.std.proofs.Common.{[], ◌∷◌}
use Rattle.session_lines.proofs.ProgressLaws.{wrote_written}
use Rattle.session_lines.proofs.writing.write_ended.Goals as goal

pub returns-clause-written : goal.returns-clause-written
returns-clause-written g c = λ line is. wrote_written _ _ (line ∷ []) c.put_ended-put.result c.as_progress.result c.as_progress.ensures (c.put_ended-put.ensures.written line is)
