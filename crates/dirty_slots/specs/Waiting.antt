-- Which slots wait.
pub use Rattle.dirty_slots.specs.Slots.{DirtySlots, Test, dirty_same, is_among, is_dirty}
use Rattle.std.specs.Prelude.{ℕ, Bool, ◌||◌}
use Rattle.dirty_slots.specs.PlaceBits.{has_place, Words}
use Rattle.dirty_slots.specs.Places.{marked}
use Rattle.dirty_slots.specs.MemberBits.{has_in, Rows}
use Rattle.dirty_slots.specs.declared.dirty_slot.DirtySlot.{DirtySlot}

-- those without a place: in the rows of their facts, and others
pub record Unplaced : Type 0 where
  pub rows : Rows
  pub others : DirtySlots

abbrev pub is_unplaced : Unplaced → Test
is_unplaced slots q = has_in slots.rows q || is_among slots.others q

-- the slots that have a place, the bits of those that wait, and those without a place that wait
pub record Queue : Type 0 where
  pub places : DirtySlots
  pub placed : Words
  pub unplaced : Unplaced

-- its place is marked, or it is one of the others
abbrev pub either : (ℕ → Bool) → DirtySlots → Test → Test
either marks places others q = is_among (marked marks places) q || others q

-- it waits
abbrev pub waits : Queue → DirtySlot → Bool
waits queue q = either (has_place queue.placed) queue.places (is_unplaced queue.unplaced) q
