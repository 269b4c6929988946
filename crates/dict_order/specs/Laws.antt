-- Laws of ranks and of facts that reach themselves, in every graph.
use Rattle.std.specs.Prelude.{◌≡◌, ℕ, ◌+◌, ◌<◌, ◌≤◌, ◌↔◌, List, [], length, IsTrue}
use Rattle.dict_order.specs.Graph.{Graph, mentioned, Mentions, Reaches, HasNoCycle}
use Rattle.dict_order.specs.Ranks.{AreRanks, are_ranks, rank_of}

-- there are ranks exactly where no fact reaches itself
abbrev pub RanksExist : Type 0
RanksExist = (graph : Graph) → HasNoCycle graph ↔ ((ranks : List ℕ) × AreRanks graph ranks)

-- a graph has one list of ranks at most
abbrev pub RanksAreOnly : Type 0
RanksAreOnly = (graph : Graph) (ranks others : List ℕ) → AreRanks graph ranks → AreRanks graph others → ranks ≡ others

-- a fact's rank is above that of each fact that it mentions
abbrev pub RanksFall : Type 0
RanksFall = (graph : Graph) (ranks : List ℕ) (fact other : ℕ) → AreRanks graph ranks → Mentions graph fact other → rank_of ranks other < rank_of ranks fact

-- and above that of each fact that it reaches
abbrev pub RanksFallAlong : Type 0
RanksFallAlong = (graph : Graph) (ranks : List ℕ) (fact other : ℕ) → AreRanks graph ranks → Reaches graph fact other → rank_of ranks other < rank_of ranks fact

-- where there are ranks, no fact reaches itself
abbrev pub RanksExcludeCycles : Type 0
RanksExcludeCycles = (graph : Graph) (ranks : List ℕ) → AreRanks graph ranks → HasNoCycle graph

-- the rank of a fact that mentions nothing is 0
abbrev pub RankOfNoneIsZero : Type 0
RankOfNoneIsZero = (graph : Graph) (ranks : List ℕ) (fact : ℕ) → AreRanks graph ranks → mentioned graph fact ≡ [] → rank_of ranks fact ≡ 0

-- the rank of any other is 1 more than that of a fact that it mentions; since ranks fall, that one is the greatest
abbrev pub RankIsOneMore : Type 0
RankIsOneMore = (graph : Graph) (ranks : List ℕ) (fact some : ℕ) → AreRanks graph ranks → Mentions graph fact some
    → (greatest : ℕ) × Mentions graph fact greatest × (rank_of ranks fact ≡ rank_of ranks greatest + 1)

-- no rank is above the number of facts
abbrev pub RanksAreSmall : Type 0
RanksAreSmall = (graph : Graph) (ranks : List ℕ) (fact : ℕ) → AreRanks graph ranks → rank_of ranks fact ≤ length graph

-- the test tells whether a list is the ranks
abbrev pub TestTellsRanks : Type 0
TestTellsRanks = (graph : Graph) (ranks : List ℕ) → IsTrue (are_ranks graph ranks) ↔ AreRanks graph ranks

-- a list for which the test is true excludes a cycle, and no other list is the ranks
abbrev pub TestedListIsRanks : Type 0
TestedListIsRanks = (graph : Graph) (ranks : List ℕ) → IsTrue (are_ranks graph ranks) → HasNoCycle graph × ((others : List ℕ) → AreRanks graph others → others ≡ ranks)
