use Rattle.dict_meaning.proofs.PlainLaws.{step_over_lower}
use Rattle.dict_meaning.proofs.plain_laws.lower_facts_are_enough.Goals as goal

pub returns : goal.returns
returns c = step_over_lower
