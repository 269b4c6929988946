use Rattle.dictionary.proofs.FirstLaws.{one_dictionary}
use Rattle.dictionary.proofs.laws.the_dictionary_is_one.Goals as goal

pub returns : goal.returns
returns c = one_dictionary
