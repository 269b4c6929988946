-- No caller reads the counter, so any ledger will do: the one of the blank.
use Rattle.interview.proofs.top.run_as.Given as goal

abbrev pub ghosts-run_behind : goal.ghosts-run_behind
ghosts-run_behind g a = record { name = a.blank.name; parts = a.blank.parts }
