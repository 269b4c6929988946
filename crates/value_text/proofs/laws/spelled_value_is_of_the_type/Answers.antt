use Rattle.value_text.proofs.TypeLaws.{of_type}
use Rattle.value_text.proofs.laws.spelled_value_is_of_the_type.Goals as goal

pub returns : goal.returns
returns c = of_type
