use Rattle.operations.proofs.CaseLaws.{after_item-step}
use Rattle.operations.proofs.laws.item_steps_give_dependencies.Goals as goal

pub returns : goal.returns
returns c = after_item-step
