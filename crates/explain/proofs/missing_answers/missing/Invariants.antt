-- No caller reads the counter, so any ledger will do: the one of the blank.
use Rattle.explain.proofs.missing_answers.missing.Given as goal

abbrev pub ghosts-all_reads : goal.ghosts-all_reads
ghosts-all_reads g a = record { name = a.blank.name; parts = a.blank.parts }
