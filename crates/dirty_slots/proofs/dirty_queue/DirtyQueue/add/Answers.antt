use Rattle.dirty_slots.specs.PlaceBits.{has_place}
use Rattle.dirty_slots.specs.Waiting.{is_unplaced}
use Rattle.dirty_slots.proofs.MarkLaws.{placed_added}
use Rattle.dirty_slots.proofs.dirty_queue.DirtyQueue.add.Goals as goal

pub returns-in-Some-clause-ok : goal.returns-in-Some-clause-ok
returns-in-Some-clause-ok c = rw (← c.self.view_is) (λ q. placed_added (has_place c.self.inside.placed) c.self.inside.places.value (is_unplaced c.self.inside.unplaced)
    (has_place c.insert.new.self) c.in-Some.place c.args.dirty (rw c.deref.ensures at c.in-Some.ensures) c.insert.ensures.places q)
