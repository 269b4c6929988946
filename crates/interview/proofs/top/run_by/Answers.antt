use Rattle.interview.proofs.top.run_by.Goals as goal

pub returns-in-Incremental : goal.returns-in-Incremental
returns-in-Incremental g c = record { ends = rw c.in-Incremental.is c.run_as.ensures.ends; calls = rw c.in-Incremental.is c.run_as.ensures.calls }

pub returns-in-Plain : goal.returns-in-Plain
returns-in-Plain g c = record { ends = rw c.in-Plain.is c.run_as-in-Plain.ensures.ends; calls = rw c.in-Plain.is c.run_as-in-Plain.ensures.calls }

pub returns-in-Desk : goal.returns-in-Desk
returns-in-Desk g c = record { ends = rw c.in-Desk.is c.run_as-in-Desk.ensures.ends; calls = rw c.in-Desk.is c.run_as-in-Desk.ensures.calls }
