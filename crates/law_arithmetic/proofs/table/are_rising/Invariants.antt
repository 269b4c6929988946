-- The rows from the one before on rise exactly where all do.
use Rattle.std.proofs.Common.{◌≡◌, ◌-◌, ◌≤◌, drop}
use Rattle.law_arithmetic.specs.Tables.{are_rising}
use Rattle.law_arithmetic.proofs.table.are_rising.Given as goal

abbrev pub invariant-loop-i : goal.invariant-loop-i
invariant-loop-i l = (1 ≤ l.i) × (are_rising (drop (l.i - 1) l.rows) ≡ are_rising l.rows)
