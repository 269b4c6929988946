-- No caller reads the counter, so any ledger will do: the one of the blank.
use Rattle.plain_table.proofs.plain_table.PlainTableFactEngine.begin.Given as goal

abbrev pub ghosts-first_table : goal.ghosts-first_table
ghosts-first_table a = record { name = a.blank.name; parts = a.blank.parts }
