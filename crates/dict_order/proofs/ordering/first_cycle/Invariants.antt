use Rattle.std.proofs.Common.{ℕ, ◌+◌, ◌-◌, ◌<◌, length}
use Rattle.dict_order.specs.Graph.{Reaches, graph_of}
use Rattle.dict_order.proofs.ordering.first_cycle.Given as goal

abbrev pub invariant-loop-fact : goal.invariant-loop-fact
invariant-loop-fact l = record {
  one : 0 < l.fact;
  lower : (lower : ℕ) → lower < l.fact → ¬ Reaches (graph_of l.graph) lower lower;
}

abbrev pub decreases-loop-fact : goal.decreases-loop-fact
decreases-loop-fact l = length l.graph + 1 - l.fact
