use Rattle.value_text.proofs.TypeLaws.{read_printed}
use Rattle.value_text.proofs.laws.reads_printed_values.Goals as goal

pub returns : goal.returns
returns c = read_printed
