use Rattle.value_text.proofs.PrintedTexts.{value_spelled}
use Rattle.value_text.proofs.laws.printed_value_is_spelled.Goals as goal

pub returns : goal.returns
returns c = value_spelled
