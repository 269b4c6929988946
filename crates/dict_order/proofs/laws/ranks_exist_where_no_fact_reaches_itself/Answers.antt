use Rattle.dict_order.proofs.RankLaws.{ranks_exist, no_cycle, only_one}
use Rattle.dict_order.proofs.laws.ranks_exist_where_no_fact_reaches_itself.Goals as goal

pub returns-clause-exist : goal.returns-clause-exist
returns-clause-exist c = λ graph. (ranks_exist graph, λ some. no_cycle graph some.0 some.1)

pub returns-clause-only : goal.returns-clause-only
returns-clause-only c = only_one
