use Rattle.std.proofs.Common.{take}
use Rattle.explain.specs.SessionContext.{tree_of}
use Rattle.explain.specs.Walk.{AddsReads}
use Rattle.explain.proofs.walk.find_all.Given as goal

abbrev pub invariant-loop-slot : goal.invariant-loop-slot
invariant-loop-slot g l = AddsReads (tree_of l.session) l.session.timeline.now (take l.slot-index l.slots) l.fn.found l.found l.fn.todo.items l.todo.items
