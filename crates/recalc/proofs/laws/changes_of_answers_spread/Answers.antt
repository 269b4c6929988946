use Rattle.recalc.proofs.BetweenLaws.{changes_spread, edit_marks, spread_touches}
use Rattle.recalc.proofs.StandingOnce.{standing_once}
use Rattle.recalc.proofs.laws.changes_of_answers_spread.Goals as goal

pub returns : goal.returns
returns c = record { spread = changes_spread; touches = spread_touches; once = standing_once; start = edit_marks }
