use Rattle.std.proofs.Common.{ℕ, ◌<◌, length, suc}
use Rattle.dict_order.specs.Graph.{AreFacts, graph_of, mentioned}
use Rattle.dict_order.proofs.graph.mentions_facts.Given as goal

abbrev pub invariant-loop-list : goal.invariant-loop-list
invariant-loop-list l = (place : ℕ) → place < l.list-index → AreFacts (length l.graph) (mentioned (graph_of l.graph) (suc place))
