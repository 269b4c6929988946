-- No caller reads the counter, so any ledger will do: the one of the blank.
use Rattle.foundation_tests.proofs.steps_tests.count_alone.Given as goal

abbrev pub ghosts-count_twice : goal.ghosts-count_twice
ghosts-count_twice a = record { name = a.blank.name; parts = a.blank.parts }
