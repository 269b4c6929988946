use Rattle.plain_table.proofs.slots.derived_result.Goals as goal

pub returns-in-None-clause-value : goal.returns-in-None-clause-value
returns-in-None-clause-value g c = rw (← c.in-None.ensures) (rw c.outermost-at.ensures at c.eval_body.ensures.value)
