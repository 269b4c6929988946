use Rattle.dict_meaning.proofs.PlainLaws.{standing_have_results}
use Rattle.dict_meaning.proofs.plain_laws.standing_slots_have_results.Goals as goal

pub returns : goal.returns
returns c = standing_have_results
