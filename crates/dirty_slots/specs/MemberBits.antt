-- Which slots wait in rows: one for each fact, by its number, with a bit for each member.
use Rattle.std.specs.Prelude.{◌^◌, Bool, false, ◌&&◌, IsTrue, nat_eq, nat_lt, List, Option, Some, None, slice_get, if◌then◌else◌}
use Rattle.dirty_slots.specs.PlaceBits.{has_place}
use Rattle.dirty_slots.specs.Slots.{DirtySlots, is_among, Test}
use Rattle.dirty_slots.specs.declared.dirty_slot.DirtySlot.{DirtySlot}
use Rattle.dirty_slots.specs.declared.member_bits.MemberBits.{MemberBits}

abbrev pub Rows : Type 0
Rows = List MemberBits

-- it waits in this row: the row is of its rank, and its member's bit is set
abbrev pub in_row : Option MemberBits → Test
in_row None q = false
in_row (Some row) q = nat_eq row.rank q.rank && (nat_lt q.member (2 ^ 32) && has_place row.members q.member)

abbrev pub has_in : Rows → Test
has_in rows q = in_row (slice_get rows q.fact) q

-- what stands for all slots of its fact and rank
abbrev pub head_of : DirtySlot → DirtySlot
head_of q = record { rank = q.rank; fact = q.fact; member = 0 }

-- of each slot that waits in a row, the head is among these
abbrev pub Headed : Rows → DirtySlots → Type 0
Headed rows heads = (q : DirtySlot) → IsTrue (has_in rows q) → IsTrue (is_among heads (head_of q))

-- the row is there, and is of this rank
abbrev pub is_of_rank : Option MemberBits → DirtySlot → Bool
is_of_rank None q = false
is_of_rank (Some row) q = nat_eq row.rank q.rank

-- of two slots, the second if it is of a lower rank
abbrev pub lower : Option DirtySlot → Option DirtySlot → Option DirtySlot
lower None q = q
lower (Some p) None = Some p
lower (Some p) (Some q) = if nat_lt q.rank p.rank then Some q else Some p
