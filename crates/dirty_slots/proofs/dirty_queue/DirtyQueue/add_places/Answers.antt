use Rattle.dirty_slots.specs.PlaceBits.{has_place}
use Rattle.dirty_slots.specs.Waiting.{is_unplaced}
use Rattle.dirty_slots.proofs.MarkLaws.{all_added}
use Rattle.dirty_slots.proofs.dirty_queue.DirtyQueue.add_places.Goals as goal

pub returns-clause-added : goal.returns-clause-added
returns-clause-added c = rw (← c.self.view_is) (all_added (has_place c.self.inside.placed) c.self.inside.places.value (is_unplaced c.self.inside.unplaced)
    (has_place c.insert_all.new.self) c.args.places.now (rw (← c.self.view_is) at c.requires) c.insert_all.ensures.places)
