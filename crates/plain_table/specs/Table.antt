-- The results that a `Table` keeps.
use Rattle.std.specs.Prelude.{ℕ, ◌&&◌, Bool, nat_eq}
use Rattle.std.specs.HashMap.{get}
use Rattle.dictionary.specs.Engines.{Marks}
use Rattle.evaluation.specs.Results.{Results}
use Rattle.plain_table.specs.declared.table.Table.{Table}

-- a cell's key: a fact and a member
abbrev pub Key : Type 0
Key = ℕ × ℕ

abbrev pub same_key : Key → Key → Bool
same_key k l = nat_eq k.0 l.0 && nat_eq k.1 l.1

abbrev pub results_of : Table → Results
results_of t s = get same_key t.cells (s.fact, s.member)

-- changes aren't counted
abbrev pub no_marks : Marks
no_marks = record { changes = 0; stamps = λ s. 0; touched = 0 }
