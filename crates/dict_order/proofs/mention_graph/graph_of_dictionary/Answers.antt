use Rattle.std.proofs.Common.{◌≤◌, ◌<◌, length, arith, ap, add-one, ◌∙◌}
use Rattle.std.proofs.lemmas.List.{take_all}
use Rattle.dict_source.specs.Dictionary.{dictionary_view}
use Rattle.dict_order.specs.MentionGraph.{mention_graph}
use Rattle.dict_order.proofs.DictionaryLaws.{few_facts, length_mention_graph, length_of_written, one_list_more}
use Rattle.dict_order.proofs.MentionLaws.{length_graph}
use Rattle.dict_order.proofs.mention_graph.graph_of_dictionary.Goals as goal

pub loop-place-preserved : goal.loop-place-preserved
loop-place-preserved c =
    let here : c.loop-place.place < length (mention_graph (dictionary_view c.args.source.now)) = omega (arith, length_of_written c.args.source.now, ap length c.facts-place-end.ensures.value, c.loop-place-test.true) in
    rw (add-one c.loop-place.place) (one_list_more (mention_graph (dictionary_view c.args.source.now)) c.loop-place.graph.items c.push.new.self.items c.in_ok-mentions.mentions c.loop-place.place here c.loop-place.invariant c.in_ok-push.ensures.items (rw (add-one c.loop-place.place) at c.in_ok-mentions.ensures))

pub returns-clause-value : goal.returns-clause-value
returns-clause-value c =
    let past : length (mention_graph (dictionary_view c.args.source.now)) ≤ c.loop-place.place = omega (arith, length_of_written c.args.source.now, ap length c.facts-place-end.ensures.value, c.loop-place-test.false) in
    c.loop-place.invariant ∙ take_all c.loop-place.place (mention_graph (dictionary_view c.args.source.now)) past

pub returns-clause-few : goal.returns-clause-few
returns-clause-few c = omega (arith, length_graph c.loop-place.graph.items, ap length (returns-clause-value c), length_mention_graph (dictionary_view c.args.source.now), few_facts (dictionary_view c.args.source.now) c.facts-place-end.ensures.valid)
