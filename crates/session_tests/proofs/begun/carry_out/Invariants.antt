-- No caller reads the counter, so any ledger will do: the one of the blank.
use Rattle.session_tests.proofs.begun.carry_out.Given as goal

abbrev pub ghosts-carry_out_counted : goal.ghosts-carry_out_counted
ghosts-carry_out_counted a = record { name = a.blank.name; parts = a.blank.parts }
