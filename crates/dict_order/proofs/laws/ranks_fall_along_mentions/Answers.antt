use Rattle.dict_order.proofs.RankLaws.{falls_once, falls_along, no_cycle}
use Rattle.dict_order.proofs.laws.ranks_fall_along_mentions.Goals as goal

pub returns-clause-mentions : goal.returns-clause-mentions
returns-clause-mentions c = falls_once

pub returns-clause-reaches : goal.returns-clause-reaches
returns-clause-reaches c = λ graph ranks fact other are reaches. falls_along graph ranks reaches.0 fact other are reaches.1

pub returns-clause-no_cycle : goal.returns-clause-no_cycle
returns-clause-no_cycle c = no_cycle
