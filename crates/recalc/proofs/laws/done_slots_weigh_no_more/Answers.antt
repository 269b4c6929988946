use Rattle.recalc.proofs.WeighingLaws.{done_weigh_all, done_weigh_less}
use Rattle.recalc.proofs.laws.done_slots_weigh_no_more.Goals as goal

pub returns : goal.returns
returns c = record { less = done_weigh_less; all = done_weigh_all }
