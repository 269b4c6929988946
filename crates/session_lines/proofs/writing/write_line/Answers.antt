use Rattle.std.proofs.Common.{[], ◌∷◌}
use Rattle.session_lines.specs.Marks.{marked}
use Rattle.session_lines.proofs.ProgressLaws.{wrote_later, wrote_written}
use Rattle.session_lines.proofs.writing.write_line.Goals as goal

pub returns-clause-written : goal.returns-clause-written
returns-clause-written g c = wrote_written _ _ (marked c.args.mark c.args.text.now ∷ []) c.put_line-put.result c.as_progress.result c.as_progress.ensures c.put_line-put.ensures

pub returns-clause-later : goal.returns-clause-later
returns-clause-later g c = wrote_later _ _ (marked c.args.mark c.args.text.now ∷ []) c.put_line-put.result c.put_line-put.ensures
