use Rattle.std.proofs.Common.{◌∙◌}
use Rattle.dirty_slots.specs.PlaceBits.{has_place}
use Rattle.dirty_slots.specs.Waiting.{is_unplaced}
use Rattle.dirty_slots.proofs.MarkLaws.{none_placed}
use Rattle.dirty_slots.proofs.dirty_queue.DirtyQueue.clear.Goals as goal

pub returns-clause-none : goal.returns-clause-none
returns-clause-none c = λ q. none_placed (has_place c.clear.new.self) c.self.inside.places.value (is_unplaced c.clear-2.new.self) (λ i l. c.clear.ensures.none i) q ∙ c.clear-2.ensures q
