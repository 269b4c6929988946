use Rattle.std.proofs.Common.{◌≡◌, ◌||◌, drop}
use Rattle.dictionary.specs.AcceptedParts.{accepted}
use Rattle.recalc.specs.Seeding.{is_field}
use Rattle.dirty_slots.specs.Waiting.{waits}
use Rattle.dirty_slots.specs.declared.dirty_slot.DirtySlot.{DirtySlot}
use Rattle.recalc.proofs.seeding.add_came.Given as goal

abbrev pub invariant-loop-fact : goal.invariant-loop-fact
invariant-loop-fact l = record {
  waiting : (q : DirtySlot)
      → (waits l.queue q || is_field (accepted l.dict) l.came (drop l.fact-index l.facts) q)
      ≡ (waits l.initial.queue q || is_field (accepted l.dict) l.came l.facts q);
  places : l.queue.places ≡ l.initial.queue.places;
}
