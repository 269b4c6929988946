use Rattle.evaluation.proofs.TypedLaws.{count-typed, item-typed, size-typed, sum-typed, test-typed, typed}
use Rattle.evaluation.proofs.laws.typed_expressions_give_their_types.Goals as goal

pub returns : goal.returns
returns g c = record {
  typed = typed;
  item = item-typed;
  test = test-typed;
  size = size-typed;
  sum = sum-typed;
  count = count-typed;
}
