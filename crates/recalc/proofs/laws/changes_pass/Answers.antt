use Rattle.recalc.proofs.BetweenLaws.{undone_passes}
use Rattle.recalc.proofs.laws.changes_pass.Goals as goal

pub returns : goal.returns
returns c = undone_passes
