use Rattle.dict_order.proofs.DictionaryLaws.{mentioned_is, mentions_facts}
use Rattle.dict_order.proofs.laws.a_dictionary_mentions_its_facts.Goals as goal

pub returns-clause-graph : goal.returns-clause-graph
returns-clause-graph c = mentioned_is

pub returns-clause-within : goal.returns-clause-within
returns-clause-within c = mentions_facts
