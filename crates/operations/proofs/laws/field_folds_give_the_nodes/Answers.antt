use Rattle.operations.proofs.FieldLaws.{count_from-start, sum_from-start}
use Rattle.operations.proofs.laws.field_folds_give_the_nodes.Goals as goal

pub returns : goal.returns
returns c = record { sum = sum_from-start; count = count_from-start }
