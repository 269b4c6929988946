use Rattle.dict_tree.proofs.DictJsonLaws.{read_given, given_read}
use Rattle.dict_tree.proofs.laws.dictionaries_are_spelled.Goals as goal

pub returns-clause-given : goal.returns-clause-given
returns-clause-given c = read_given

pub returns-clause-read : goal.returns-clause-read
returns-clause-read c = given_read
