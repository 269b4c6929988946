use Rattle.std.proofs.Common.{◌≡◌, ℕ, map, None}
use Rattle.std.specs.Prelude.{slice_index_or}
use Rattle.cell_store.specs.Numbers.{number_of}
use Rattle.cell_store.proofs.globals.GlobalCells.with_facts.Given as goal

abbrev pub invariant-loop-n : goal.invariant-loop-n
invariant-loop-n l =
    record {
      none : (fact : ℕ) → slice_index_or l.cells.items fact None ≡ None;
      numbers : l.numbers.items ≡ map number_of l.cells.items;
    }
