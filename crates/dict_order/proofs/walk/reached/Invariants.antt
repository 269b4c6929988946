use Rattle.std.proofs.Common.{◌+◌, ◌*◌, length}
use Rattle.dict_order.specs.Graph.{graph_of}
use Rattle.dict_order.specs.Walking.{unseen}
use Rattle.dict_order.proofs.WalkLaws.{Walk}
use Rattle.dict_order.proofs.walk.reached.Given as goal

abbrev pub invariant-loop-next : goal.invariant-loop-next
invariant-loop-next l = Walk (graph_of l.graph) l.from l.seen.items l.todo.items

abbrev pub decreases-loop-next : goal.decreases-loop-next
decreases-loop-next l = 2 * unseen l.seen.items + length l.todo.items
