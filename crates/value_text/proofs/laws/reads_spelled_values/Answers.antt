use Rattle.value_text.proofs.TypeLaws.{read_exactly}
use Rattle.value_text.proofs.laws.reads_spelled_values.Goals as goal

pub returns : goal.returns
returns c = read_exactly
