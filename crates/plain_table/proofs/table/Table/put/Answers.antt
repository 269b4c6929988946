use Rattle.plain_table.proofs.table.Table.put.Goals as goal

pub returns-in-Ok : goal.returns-in-Ok
returns-in-Ok c = λ s. c.in-Ok.ensures.updates.0 (s.fact, s.member)
