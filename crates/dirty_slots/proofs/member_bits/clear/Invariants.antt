use Rattle.std.proofs.Common.{◌≡◌, ◌<◌, ◌-◌, false, length}
use Rattle.dirty_slots.specs.MemberBits.{has_in}
use Rattle.dirty_slots.specs.declared.dirty_slot.DirtySlot.{DirtySlot as OneSlot}
use Rattle.dirty_slots.proofs.member_bits.clear.Given as goal

abbrev pub invariant-loop-at : goal.invariant-loop-at
invariant-loop-at l = (q : OneSlot) → q.fact < l.at → has_in l.rows q ≡ false

abbrev pub decreases-loop-at : goal.decreases-loop-at
decreases-loop-at l = length l.rows - l.at
