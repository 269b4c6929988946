-- Laws of cells at slots: a put or a take changes what one slot has, and no other.
use Rattle.std.specs.Prelude.{◌≡◌, ◌≢◌, Some, None}
use Rattle.std.specs.FinMap as map
use Rattle.fact_values.specs.declared.slot.Slot.{Slot}
use Rattle.cell_store.specs.Contents.{Cells}
use Rattle.cell_store.specs.declared.cell.Cell.{Cell}

-- a cell that was put at a slot is there, and each other slot has what it had
abbrev pub PutChangesOneSlot : Type 0
PutChangesOneSlot =
    (m : Cells) (s : Slot) (c : Cell)
    → (map.get (map.insert m s c) s ≡ Some c)
    × ((q : Slot) → q ≢ s → map.get (map.insert m s c) q ≡ map.get m q)

-- a slot from which the cell was taken has none, and each other slot has what it had
abbrev pub TakeChangesOneSlot : Type 0
TakeChangesOneSlot =
    (m : Cells) (s : Slot)
    → (map.get (map.remove m s) s ≡ None)
    × ((q : Slot) → q ≢ s → map.get (map.remove m s) q ≡ map.get m q)
