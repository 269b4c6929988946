use Rattle.std.proofs.Common.{◌≡◌, ℕ, List, ap, subst, sym, ◌∙◌}
use Rattle.std.specs.Prelude.{IfOk}
use Rattle.dict_source.specs.Dictionary.{dictionary_view}
use Rattle.dict_order.specs.Graph.{mentioned}
use Rattle.dict_order.specs.MentionGraph.{facts_of, mention_graph}
use Rattle.dict_order.proofs.DictionaryLaws.{mentioned_is}
use Rattle.dict_order.proofs.mention_graph.mentions_of.Goals as goal

pub returns : goal.returns
returns c =
    let d = dictionary_view c.args.source.now in
    let numbers : facts_of c.as_slice.result.now ≡ mentioned (mention_graph d) c.args.fact = ap facts_of (c.as_slice.ensures.value ∙ c.in_ok-mentions.ensures.value) ∙ sym (mentioned_is d c.args.fact) in
    subst (λ (l : List ℕ). IfOk c.numbers_of.result (λ list. list.items ≡ l)) numbers c.numbers_of.ensures
