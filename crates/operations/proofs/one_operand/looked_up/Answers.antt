use Rattle.operations.proofs.LookupLaws.{text_for}
use Rattle.operations.proofs.one_operand.looked_up.Goals as goal

pub returns-clause-memory : goal.returns-clause-memory
returns-clause-memory c = λ h. text_for c.args.table.now c.args.value.now c.value_for.ensures.table (rw c.value_for.ensures.value at (c.copy.ensures.memory h))
