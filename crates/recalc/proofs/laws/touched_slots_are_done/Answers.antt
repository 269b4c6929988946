use Rattle.recalc.proofs.MarkingLaws.{done_are_touched, lower_settle, start_marks, turn_marks}
use Rattle.recalc.proofs.laws.touched_slots_are_done.Goals as goal

pub returns : goal.returns
returns c = record { start = start_marks; turn = turn_marks; settled = lower_settle; end = done_are_touched }
