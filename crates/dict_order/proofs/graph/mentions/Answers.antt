use Rattle.std.proofs.Common.{◌≡◌, ℕ, zero, suc, ◌-◌, List, get_or, Vec, Global, arith, ap, ◌∙◌}
use Rattle.dict_order.specs.Graph.{IsFact, graph_of, mentioned}
use Rattle.dict_order.proofs.MentionLaws.{item_is, length_graph}
use Rattle.dict_order.proofs.graph.mentions.Goals as goal

listed : (lists : List (Vec ℕ Global)) (fact : ℕ) (v : Vec ℕ Global) (list : List ℕ) → IsFact (graph_of lists) fact → v ≡ get_or lists (fact - 1) v → list ≡ v.items → list ≡ mentioned (graph_of lists) fact
listed lists zero v list h e i = absurd (omega (arith, h.0))
listed lists (suc place) v list h e i =
    let at : suc place - 1 ≡ place = omega arith in
    item_is lists place v list (omega (arith, h.1, length_graph lists)) (e ∙ ap (λ (k : ℕ). get_or lists k v) at) i

pub returns : goal.returns
returns c = listed c.args.graph.now c.args.fact c.index-graph-fact.result c.as_slice.result.now c.requires c.index-graph-fact.is c.as_slice.ensures.value
