use Rattle.operations.proofs.CaseLaws.{find_after-start, switch_from-start}
use Rattle.operations.proofs.laws.case_steps_give_the_nodes.Goals as goal

pub returns : goal.returns
returns c = record { switch = switch_from-start; find = find_after-start }
