use Rattle.dict_meaning.proofs.PlainLaws.{plain_is_recursive}
use Rattle.dict_meaning.proofs.plain_laws.plain_evaluation_is_recursive.Goals as goal

pub returns : goal.returns
returns c = plain_is_recursive
