use Rattle.std.proofs.Common.{◌≡◌, max, drop}
use Rattle.dict_order.specs.Ranking.{rank_by}
use Rattle.dict_order.proofs.ranks.rank_above.Given as goal

abbrev pub invariant-loop-mention : goal.invariant-loop-mention
invariant-loop-mention l = max l.rank (rank_by l.marks (drop l.mention-index l.mentions)) ≡ rank_by l.marks l.mentions
