-- How cells are kept in places: each in one of its own, which is found by the slot's fact and member.
use Rattle.std.specs.Prelude.{◌≡◌, ◌≤◌, ℕ, ◌&&◌, Bool, nat_eq, List, [], ◌∷◌, Option, Some, None, IsSome}
use Rattle.std.specs.HashMap.{get, spare}
use Rattle.std.specs.FinMap as map
use Rattle.slab.specs.Slab.{Slab, get as cell_in, HasRoomFor}
use Rattle.fact_values.specs.declared.slot.Slot.{Slot}
use Rattle.cell_store.specs.Contents.{Cells, Contents}
use Rattle.cell_store.specs.declared.cell.Cell.{Cell}
use Rattle.cell_store.specs.declared.placed.Placed.TheInside.{Inside}

-- a slot's fact and its member
abbrev pub Key : Type 0
Key = ℕ × ℕ

abbrev pub same_key : Key → Key → Bool
same_key k l = nat_eq k.0 l.0 && nat_eq k.1 l.1

abbrev pub key_of : Slot → Key
key_of s = (s.fact, s.member)

abbrev pub slot_of : Key → Slot
slot_of k = record { fact = k.0; member = k.1 }

-- with this cell at the slot, or with none there
abbrev pub put_at : Cells → Slot → Option Cell → Cells
put_at m s None = map.remove m s
put_at m s (Some c) = map.insert m s c

-- the cells at these places
abbrev pub cells_at : Slab Cell → List (Key × ℕ) → Cells
cells_at cells [] = map.empty
cells_at cells (e ∷ es) = put_at (cells_at cells es) (slot_of e.0) (cell_in cells e.1)

abbrev pub contents : Inside → Contents
contents a = record { cells = cells_at a.cells a.places.entries; room = a.room }

-- each place has a cell, and is that of one key alone, and each cell has a place, so that none is left behind
pub record ArePlaced (places : Key → Option ℕ) (cells : ℕ → Option Cell) : Type 0 where
  pub filled : (k : Key) (p : ℕ) → places k ≡ Some p → IsSome (cells p)
  pub apart : (k l : Key) (p : ℕ) → places k ≡ Some p → places l ≡ Some p → k ≡ l
  pub found : (p : ℕ) → IsSome (cells p) → (k : Key) × (places k ≡ Some p)

-- and where there is room for so many slots, they want no memory
pub record IsSound (a : Inside) : Type 0 where
  pub placed : ArePlaced (get same_key a.places) (cell_in a.cells)
  pub spare_places : a.room ≤ spare a.places
  pub spare_cells : HasRoomFor a.cells a.room
