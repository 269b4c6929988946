-- Which slots are the same, and which are among some.
use Rattle.std.specs.Prelude.{Bool, false, ◌&&◌, nat_eq, List, Option, Some, None}
use Rattle.std.specs.List.{list_any}
use Rattle.dirty_slots.specs.declared.dirty_slot.DirtySlot.{DirtySlot}

abbrev pub DirtySlots : Type 0
DirtySlots = List DirtySlot

-- of each slot, whether it waits
abbrev pub Test : Type 0
Test = DirtySlot → Bool

abbrev pub dirty_same : DirtySlot → DirtySlot → Bool
dirty_same p q = nat_eq p.rank q.rank && (nat_eq p.fact q.fact && nat_eq p.member q.member)

-- it is one of these
abbrev pub is_among : DirtySlots → DirtySlot → Bool
is_among ds q = list_any (dirty_same q) ds

abbrev pub is_dirty : Option DirtySlot → DirtySlot → Bool
is_dirty None q = false
is_dirty (Some d) q = dirty_same d q
