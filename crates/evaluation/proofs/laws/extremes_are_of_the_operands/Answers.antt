use Rattle.evaluation.proofs.Orders.{greatest-is-greatest, least-is-least}
use Rattle.evaluation.proofs.laws.extremes_are_of_the_operands.Goals as goal

pub returns : goal.returns
returns c = record { greatest = greatest-is-greatest; least = least-is-least }
