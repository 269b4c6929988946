use Rattle.recalc.proofs.BetweenLaws.{all_is_done, touched_weigh}
use Rattle.recalc.proofs.laws.a_change_of_answers_is_done.Goals as goal

pub returns : goal.returns
returns c = record { done = all_is_done; weight = touched_weigh }
