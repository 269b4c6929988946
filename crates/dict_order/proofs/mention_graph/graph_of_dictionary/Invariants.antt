-- The lists so far are the beginning of the graph.
use Rattle.std.proofs.Common.{◌≡◌, take}
use Rattle.dict_source.specs.Dictionary.{dictionary_view}
use Rattle.dict_order.specs.Graph.{graph_of}
use Rattle.dict_order.specs.MentionGraph.{mention_graph}
use Rattle.dict_order.proofs.mention_graph.graph_of_dictionary.Given as goal

abbrev pub invariant-loop-place : goal.invariant-loop-place
invariant-loop-place l = graph_of l.graph.items ≡ take l.place (mention_graph (dictionary_view l.source))
