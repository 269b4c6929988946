use Rattle.std.proofs.Common.{◌≡◌, ◌||◌, drop}
use Rattle.recalc.specs.Propagations.{setting_of}
use Rattle.recalc.specs.Running.{let_by_all}
use Rattle.dirty_slots.specs.Waiting.{waits}
use Rattle.dirty_slots.specs.declared.dirty_slot.DirtySlot.{DirtySlot}
use Rattle.recalc.proofs.marking.mark_all.Given as goal

abbrev pub invariant-loop-reader : goal.invariant-loop-reader
invariant-loop-reader l = record {
  marked : (q : DirtySlot)
      → (waits l.queue q || let_by_all (setting_of l.propagation) l.store.cells l.slot (drop l.reader-index l.readers) q)
      ≡ (waits l.initial.queue q || let_by_all (setting_of l.propagation) l.store.cells l.slot l.readers q);
  places : l.queue.places ≡ l.initial.queue.places;
}
