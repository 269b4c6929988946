use Rattle.std.proofs.Common.{arith, get_or}
use Rattle.dict_order.proofs.ListLaws.{has_at}
use Rattle.dict_order.proofs.ranks.rank_above.Goals as goal

pub bounds-marks-mention : goal.bounds-marks-mention
bounds-marks-mention c = c.requires.within (get_or c.args.mentions.now c.loop-mention.mention-index 0) (has_at c.args.mentions.now c.loop-mention.mention-index (omega arith))
