use Rattle.std.proofs.Common.{◌≡◌, false}
use Rattle.dirty_slots.specs.MemberBits.{has_in}
use Rattle.dirty_slots.specs.declared.dirty_slot.DirtySlot.{DirtySlot as OneSlot}
use Rattle.dirty_slots.proofs.member_bits.new_rows.Given as goal

abbrev pub invariant-loop : goal.invariant-loop
invariant-loop l = (q : OneSlot) → has_in l.rows.items q ≡ false
