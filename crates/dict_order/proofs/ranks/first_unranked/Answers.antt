use Rattle.std.proofs.Common.{arith, get_or}
use Rattle.dict_order.proofs.ListLaws.{has_at}
use Rattle.dict_order.proofs.ranks.first_unranked.Goals as goal

pub bounds-marks-mentions : goal.bounds-marks-mentions
bounds-marks-mentions c = c.requires.within (get_or c.args.mentions.now c.loop-place.place 0) (has_at c.args.mentions.now c.loop-place.place (omega arith))
