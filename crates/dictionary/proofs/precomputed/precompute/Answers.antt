use Rattle.std.proofs.Common.{arith}
use Rattle.dict_source.specs.Dictionary.{dictionary_view}
use Rattle.dict_order.proofs.DictionaryLaws.{few_facts, length_mention_graph}
use Rattle.dictionary.proofs.ByRankLaws.{facts_by_rank}
use Rattle.dictionary.proofs.precomputed.precompute.Goals as goal

pub by_rank-requires : goal.by_rank-requires
by_rank-requires c =
    let d = dictionary_view c.args.source.now in
    omega (arith, c.requires.count, length_mention_graph d, few_facts d c.facts.ensures.valid)

pub steady_facts-requires : goal.steady_facts-requires
steady_facts-requires c = facts_by_rank (dictionary_view c.args.source.now) c.args.ranks.now c.as_slice.result.now _ c.requires c.in_ok-by_rank.ensures c.as_slice.ensures.value
