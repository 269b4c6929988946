use Rattle.std.proofs.Common.{◌+◌, ◌*◌, ◌≡◌, false, length}
use Rattle.dict_order.specs.Graph.{graph_of}
use Rattle.dict_order.specs.Ranking.{Pass, StayMet, is_new, mark_of, unmet}
use Rattle.dict_order.proofs.ranks.explore.Given as goal

abbrev pub invariant-loop-fact : goal.invariant-loop-fact
invariant-loop-fact l = record {
  pass : Pass (graph_of l.graph) l.marks l.path.items;
  met : StayMet l.fn.marks l.marks;
  start : is_new (mark_of l.marks l.start) ≡ false;
}

abbrev pub decreases-loop-fact : goal.decreases-loop-fact
decreases-loop-fact l = 2 * unmet l.marks + length l.path.items
