-- No caller reads the counter, so any ledger will do: the one of the blank.
use Rattle.session_tests.proofs.desk_begun.said.Given as goal

abbrev pub ghosts-said_counted : goal.ghosts-said_counted
ghosts-said_counted a = record { name = a.blank.name; parts = a.blank.parts }
