use Rattle.std.proofs.Common.{sym}
use Rattle.dirty_slots.proofs.MarkLaws.{beside_before, lower_before, one_more_rises}
use Rattle.dirty_slots.proofs.places.is_behind.Goals as goal

pub returns-then-last-slot : goal.returns-then-last-slot
returns-then-last-slot c = λ lower rising. one_more_rises c.args.slots.now c.in-Some.last.now c.args.slot rising (sym c.in-Some.ensures.value) (lower_before c.in-Some.last.now c.args.slot lower)

pub returns-then-last-slot-2 : goal.returns-then-last-slot-2
returns-then-last-slot-2 c = λ lower rising. one_more_rises c.args.slots.now c.in-Some.last.now c.args.slot rising (sym c.in-Some.ensures.value) (beside_before c.in-Some.last.now c.args.slot c.if-last-slot-2.true lower)
