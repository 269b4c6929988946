use Rattle.dict_order.specs.Ranks.{rank_of}
use Rattle.dict_order.proofs.HeightLaws.{rank_small}
use Rattle.dict_order.proofs.RankLaws.{has_rank, rank_of_none, one_more}
use Rattle.dict_order.proofs.laws.a_rank_is_one_more_than_the_greatest.Goals as goal

pub returns-clause-none : goal.returns-clause-none
returns-clause-none c = rank_of_none

pub returns-clause-one_more : goal.returns-clause-one_more
returns-clause-one_more c = one_more

pub returns-clause-small : goal.returns-clause-small
returns-clause-small c = λ graph ranks fact are. rank_small graph fact (rank_of ranks fact) (has_rank graph ranks fact are)
