use Rattle.dict_order.proofs.RankLaws.{test_tells, ranks_pass, no_cycle, only_one}
use Rattle.dict_order.proofs.laws.a_written_list_is_tested.Goals as goal

pub returns-clause-tells : goal.returns-clause-tells
returns-clause-tells c = λ graph ranks. (test_tells graph ranks, ranks_pass graph ranks)

pub returns-clause-ranks : goal.returns-clause-ranks
returns-clause-ranks c = λ graph ranks test. (no_cycle graph ranks (test_tells graph ranks test), λ others are. only_one graph others ranks are (test_tells graph ranks test))
