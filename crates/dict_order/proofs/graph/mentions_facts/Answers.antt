use Rattle.std.proofs.Common.{ℕ, suc, length, sym, subst, ◌∙◌, below_more, true≢false, arith}
use Rattle.dict_order.specs.Graph.{AreFacts, graph_of, mentioned}
use Rattle.dict_order.proofs.MentionLaws.{item_is, length_graph}
use Rattle.dict_order.proofs.graph.mentions_facts.Goals as goal

pub returns-then-not-are_facts : goal.returns-then-not-are_facts
returns-then-not-are_facts c =
    let listed = item_is c.args.graph.now c.loop-list.list-index c.list-item.result c.as_slice.result.now (omega arith) c.list-item.is c.as_slice.ensures.value in (
      λ t. absurd (true≢false (sym t)),
      λ all.
          let are : AreFacts (length c.args.graph.now) (mentioned (graph_of c.args.graph.now) (suc c.loop-list.list-index)) = λ fact h. let f = all (suc c.loop-list.list-index) fact h in (f.0, omega (arith, f.1, length_graph c.args.graph.now)) in
          absurd (true≢false (sym (c.are_facts.ensures.1 (subst (AreFacts (length c.args.graph.now)) (sym listed) are)) ∙ c.if-not-are_facts.true)),
    )

pub loop-list-preserved : goal.loop-list-preserved
loop-list-preserved c =
    let listed = item_is c.args.graph.now c.loop-list.list-index c.list-item.result c.as_slice.result.now (omega arith) c.list-item.is c.as_slice.ensures.value in
    below_more (λ (place : ℕ). AreFacts (length c.args.graph.now) (mentioned (graph_of c.args.graph.now) (suc place))) c.loop-list.list-index c.loop-list.invariant (subst (AreFacts (length c.args.graph.now)) listed (c.are_facts.ensures.0 c.if-not-are_facts.false))
