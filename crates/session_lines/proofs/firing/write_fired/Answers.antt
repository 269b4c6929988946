use Rattle.session_lines.proofs.ProgressLaws.{wrote_later, wrote_written}
use Rattle.session_lines.proofs.firing.write_fired.Goals as goal

pub returns-clause-written : goal.returns-clause-written
returns-clause-written g c = λ before noted. wrote_written _ _ _ c.put_fired.result c.as_progress.result c.as_progress.ensures (c.put_fired.ensures before noted)

pub returns-clause-later : goal.returns-clause-later
returns-clause-later g c = wrote_later _ _ _ c.put_fired.result (c.put_fired.ensures c.requires.noted.0 c.requires.noted.1)
