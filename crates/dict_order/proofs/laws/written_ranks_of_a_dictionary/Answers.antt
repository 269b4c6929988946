use Rattle.dict_order.proofs.DictionaryLaws.{written_ranks}
use Rattle.dict_order.proofs.laws.written_ranks_of_a_dictionary.Goals as goal

pub returns : goal.returns
returns c = written_ranks
