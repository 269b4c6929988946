use Rattle.std.proofs.Common.{◌≡◌, ◌||◌, drop}
use Rattle.dictionary.specs.AcceptedParts.{accepted}
use Rattle.recalc.specs.Seeding.{is_at}
use Rattle.dirty_slots.specs.Waiting.{waits}
use Rattle.dirty_slots.specs.declared.dirty_slot.DirtySlot.{DirtySlot}
use Rattle.recalc.proofs.seeding.add_at.Given as goal

abbrev pub invariant-loop-member : goal.invariant-loop-member
invariant-loop-member l = record {
  waiting : (q : DirtySlot)
      → (waits l.queue q || is_at (accepted l.dict) q (drop l.member-index l.members) l.fact)
      ≡ (waits l.initial.queue q || is_at (accepted l.dict) q l.members l.fact);
  places : l.queue.places ≡ l.initial.queue.places;
}
