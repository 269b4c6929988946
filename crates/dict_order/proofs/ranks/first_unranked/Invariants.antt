use Rattle.dict_order.specs.Ranking.{AreRanked}
use Rattle.dict_order.proofs.ranks.first_unranked.Given as goal

abbrev pub invariant-loop-place : goal.invariant-loop-place
invariant-loop-place l = AreRanked l.marks l.place l.mentions
