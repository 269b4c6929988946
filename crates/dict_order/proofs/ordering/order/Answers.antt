use Rattle.std.proofs.Common.{◌≡◌, length, ap, sym, subst, ◌∙◌, arith}
use Rattle.dict_source.specs.Dictionary.{dictionary_view}
use Rattle.dict_order.specs.Graph.{MentionsFacts, graph_of}
use Rattle.dict_order.specs.MentionGraph.{mention_graph}
use Rattle.dict_order.proofs.DictionaryLaws.{mentions_facts}
use Rattle.dict_order.proofs.ordering.order.Goals as goal

pub order_graph-requires-clause-within : goal.order_graph-requires-clause-within
order_graph-requires-clause-within c =
    let same : graph_of c.as_slice.result.now ≡ mention_graph (dictionary_view c.args.source.now) = ap graph_of c.as_slice.ensures.value ∙ c.in_ok-graph.ensures.value in
    subst MentionsFacts (sym same) (mentions_facts (dictionary_view c.args.source.now))

pub order_graph-requires-clause-few : goal.order_graph-requires-clause-few
order_graph-requires-clause-few c = omega (arith, ap length c.as_slice.ensures.value, c.in_ok-graph.ensures.few)
