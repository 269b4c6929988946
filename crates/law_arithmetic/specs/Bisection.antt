-- A part of a table's rows in which a bisection goes on.
use Rattle.std.specs.Prelude.{ℕ, ◌+◌, ◌≤◌, ℤ, IsTrue, List, length, take, drop, int_lt}
use Rattle.std.specs.List.{list_all}
use Rattle.law_arithmetic.specs.declared.table.Row.{Row}
use Rattle.law_arithmetic.specs.Tables.{has_begun}

-- the rows before the part have begun, and those behind it haven't
pub record IsNarrowed (rows : List Row) (n : ℤ) (first part : ℕ) : Type 0 where
  pub within : first + part ≤ length rows
  pub before : IsTrue (list_all (has_begun n) (take first rows))
  pub behind : IsTrue (list_all (λ row. int_lt n row.key) (drop (first + part) rows))
