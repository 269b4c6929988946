use Rattle.std.proofs.Common.{◌+◌, length}
use Rattle.dictionary.specs.AcceptedParts.{accepted}
use Rattle.explain.specs.SessionContext.{tree_of}
use Rattle.explain.specs.Walk.{IsWalked, unfound}
use Rattle.explain.proofs.walk.find_reads.Given as goal

abbrev pub invariant-loop-next : goal.invariant-loop-next
invariant-loop-next g l = IsWalked (accepted l.session.dict) l.session.timeline.now l.fn.slot l.found l.todo.items

abbrev pub decreases-loop-next : goal.decreases-loop-next
decreases-loop-next g l = length l.todo.items + unfound (tree_of l.session) l.session.timeline.now l.found
