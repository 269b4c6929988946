-- What was replaced in a store, and how all is put back.
use Rattle.std.specs.Prelude.{◌≡◌, false, IsTrue, IsSome, List, [], ◌∷◌, ◌++◌, map, Option}
use Rattle.std.specs.FinMap as finite
use Rattle.fact_values.specs.declared.slot.Slot.{Slot}
use Rattle.cell_store.specs.Contents.{Cells}
use Rattle.cell_store.specs.Places.{put_at}
use Rattle.cell_store.specs.declared.cell.Cell.{Cell}
use Rattle.recalc.specs.Spread.{is_in, NoTwice}
use Rattle.recalc.specs.declared.log.Log.{Log}
use Rattle.recalc.specs.declared.log.Replaced.{Replaced}

abbrev pub entries : Log → List Replaced
entries log = log.entries.items

abbrev pub slots_of : List Replaced → List Slot
slots_of = map (λ e. e.slot)

-- the cells before they were replaced: the first of two entries for a slot counts
abbrev pub before : List Replaced → Cells → Cells
before [] m = m
before (e ∷ es) m = put_at (before es m) e.slot e.cell

-- no slot has two entries, and each has a cell, so to put all back takes no memory
pub record CanPutBack (es : List Replaced) (m : Cells) : Type 0 where
  pub once : NoTwice (slots_of es)
  pub there : (s : Slot) → IsTrue (is_in (slots_of es) s) → IsSome (finite.get m s)

-- ---- laws

-- with the entry of what a change of one cell replaced, the cells before are what they were
abbrev pub EntryKeepsBefore : Type 0
EntryKeepsBefore =
    (es : List Replaced) (m : Cells) (s : Slot) (o : Option Cell)
    → before (es ++ record { slot = s; cell = finite.get m s } ∷ []) (put_at m s o) ≡ before es m

-- and where a cell was put at a slot without an entry, all can still be put back
abbrev pub EntryCanPutBack : Type 0
EntryCanPutBack =
    (es : List Replaced) (m : Cells) (s : Slot) (c : Cell) → CanPutBack es m → is_in (slots_of es) s ≡ false
    → CanPutBack (es ++ record { slot = s; cell = finite.get m s } ∷ []) (finite.insert m s c)
