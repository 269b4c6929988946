use Rattle.value_text.proofs.TypeLaws.{one_value}
use Rattle.value_text.proofs.laws.spells_one_value.Goals as goal

pub returns : goal.returns
returns c = one_value
