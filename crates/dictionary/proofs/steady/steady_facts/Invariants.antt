-- The facts so far are known.
use Rattle.std.proofs.Common.{◌≡◌, ℕ, ◌<◌, List, length, get_or}
use Rattle.dict_source.specs.Dictionary.{dictionary_view}
use Rattle.dict_order.specs.MentionGraph.{mention_graph}
use Rattle.dict_order.specs.Ranks.{AreRanks}
use Rattle.dictionary.specs.ByRank.{AreByRank}
use Rattle.dict_meaning.specs.Steady.{steady_by_rank}
use Rattle.dictionary.specs.SteadyDependencies.{known_at}
use Rattle.dictionary.proofs.steady.steady_facts.Given as goal

abbrev pub invariant-loop-number : goal.invariant-loop-number
invariant-loop-number l = record {
  count : length l.known.items ≡ length (dictionary_view l.source).facts;
  known : (ranks : List ℕ) → AreRanks (mention_graph (dictionary_view l.source)) ranks → AreByRank ranks l.by_rank
      → (place : ℕ) → place < l.number-index → known_at l.known.items (get_or l.by_rank place 0) ≡ steady_by_rank (dictionary_view l.source) ranks (get_or l.by_rank place 0);
}
