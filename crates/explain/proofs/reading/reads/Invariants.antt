-- No caller reads the counter, so any ledger will do: the one of the blank.
use Rattle.explain.proofs.reading.reads.Given as goal

abbrev pub ghosts-reads_uncounted : goal.ghosts-reads_uncounted
ghosts-reads_uncounted g a = record { name = a.blank.name; parts = a.blank.parts }
