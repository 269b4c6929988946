use Rattle.std.proofs.Common.{ℕ, List, sym, subst}
use Rattle.dict_order.specs.Graph.{Has}
use Rattle.dict_order.specs.MentionGraph.{mention_graph}
use Rattle.dict_order.proofs.DictionaryLaws.{mentioned_is}
use Rattle.dict_order.proofs.RankLaws.{falls_once, no_cycle}
use Rattle.dict_order.proofs.laws.ranks_of_a_dictionary_fall.Goals as goal

pub returns-clause-mentions : goal.returns-clause-mentions
returns-clause-mentions c = λ d ranks fact other are h. falls_once (mention_graph d) ranks fact other are (subst (λ (l : List ℕ). Has l other) (sym (mentioned_is d fact)) h)

pub returns-clause-no_cycle : goal.returns-clause-no_cycle
returns-clause-no_cycle c = λ d. no_cycle (mention_graph d)
