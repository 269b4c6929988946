use Rattle.dict_meaning.proofs.PlainLaws.{joined_by_rank}
use Rattle.dict_meaning.proofs.plain_laws.known_values_are_joined_by_rank.Goals as goal

pub returns : goal.returns
returns c = joined_by_rank
