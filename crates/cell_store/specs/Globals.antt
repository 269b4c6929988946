-- The cells of global facts, which are found by the facts' numbers.
use Rattle.std.specs.Prelude.{ℕ, zero, suc, ◌&&◌, Bool, nat_eq, nat_lt, List, length, slice_index_or, Option, None}
use Rattle.fact_values.specs.declared.slot.Slot.{Slot}
use Rattle.cell_store.specs.Contents.{Cells}
use Rattle.cell_store.specs.Places.{put_at}
use Rattle.cell_store.specs.declared.cell.Cell.{Cell}

-- whether a slot is that of a global fact below this number
abbrev pub is_below : ℕ → Slot → Bool
is_below n s = nat_lt s.fact n && nat_eq s.member 0

-- whether a slot's cell is one of these
abbrev pub is_global : List (Option Cell) → Slot → Bool
is_global globals s = is_below (length globals) s

-- cells, with those of the global facts below a number put over them
abbrev pub with_first : List (Option Cell) → ℕ → Cells → Cells
with_first globals zero m = m
with_first globals (suc n) m = put_at (with_first globals n m) (record { fact = n; member = 0 }) (slice_index_or globals n None)

-- and with those of all global facts
abbrev pub with_globals : List (Option Cell) → Cells → Cells
with_globals globals m = with_first globals (length globals) m
