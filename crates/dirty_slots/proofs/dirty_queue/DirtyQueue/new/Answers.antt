use Rattle.std.proofs.Common.{◌∙◌}
use Rattle.dirty_slots.specs.PlaceBits.{has_place}
use Rattle.dirty_slots.specs.Waiting.{is_unplaced}
use Rattle.dirty_slots.proofs.MarkLaws.{none_placed}
use Rattle.dirty_slots.proofs.dirty_queue.DirtyQueue.new.Goals as goal

pub returns-clause-none : goal.returns-clause-none
returns-clause-none c = λ q. none_placed (has_place c.in_ok-placed.placed) c.args.places.value (is_unplaced c.in_ok-unplaced.unplaced) (λ i l. c.in_ok-placed.ensures.none i) q ∙ c.in_ok-unplaced.ensures q
