use Rattle.std.proofs.Common.{◌≡◌, ◌||◌, drop}
use Rattle.std.specs.List.{list_any}
use Rattle.recalc.specs.Propagations.{setting_of}
use Rattle.recalc.specs.Readers.{marks_at}
use Rattle.recalc.specs.Running.{shielded_in}
use Rattle.dirty_slots.specs.Waiting.{waits}
use Rattle.dirty_slots.specs.declared.dirty_slot.DirtySlot.{DirtySlot}
use Rattle.recalc.proofs.marking.mark_members.Given as goal

abbrev pub invariant-loop-member : goal.invariant-loop-member
invariant-loop-member l = record {
  marked : (q : DirtySlot)
      → (waits l.queue q || list_any (marks_at (shielded_in (setting_of l.propagation) l.store.cells) l.slot l.reader l.rank q) (drop l.member-index l.members))
      ≡ (waits l.initial.queue q || list_any (marks_at (shielded_in (setting_of l.propagation) l.store.cells) l.slot l.reader l.rank q) l.members);
  places : l.queue.places ≡ l.initial.queue.places;
}
