-- Laws of mentions and ranks in the graph of every dictionary.
use Rattle.std.specs.Prelude.{◌≡◌, ℕ, ◌<◌, List, IsTrue, Result, Ok, Err}
use Rattle.std.specs.Global.{Vec}
use Rattle.dict_source.specs.Dictionary.{Dictionary}
use Rattle.dict_source.specs.Finding.{fact_at}
use Rattle.dict_source.specs.Mentions.{found_mentions}
use Rattle.dict_order.specs.Graph.{Has, HasNoCycle, MentionsFacts, mentioned}
use Rattle.dict_order.specs.MentionGraph.{facts_of, mention_graph}
use Rattle.dict_order.specs.Ranks.{AreRanks, are_ranks, rank_of}
use Rattle.dict_order.specs.Order.{Orders}
use Rattle.dict_order.specs.declared.fault.OrderFault.{OrderFault}
use Rattle.dict_order.specs.declared.fault.OrderFault.TheVariants.{NoMemory}

-- of which facts the mentions of a fact are
abbrev pub DictMentions : Dictionary → ℕ → ℕ → Type 0
DictMentions d fact other = Has (facts_of (found_mentions d fact (fact_at d.facts fact))) other

-- the graph has the mentions of each fact
abbrev pub GraphIsOfMentions : Type 0
GraphIsOfMentions = (d : Dictionary) (fact : ℕ) → mentioned (mention_graph d) fact ≡ facts_of (found_mentions d fact (fact_at d.facts fact))

-- what is mentioned is a fact
abbrev pub DictMentionsFacts : Type 0
DictMentionsFacts = (d : Dictionary) → MentionsFacts (mention_graph d)

-- where a dictionary has ranks, a fact's rank is above that of each fact that it mentions
abbrev pub DictRanksFall : Type 0
DictRanksFall = (d : Dictionary) (ranks : List ℕ) (fact other : ℕ) → AreRanks (mention_graph d) ranks → DictMentions d fact other → rank_of ranks other < rank_of ranks fact

-- and no fact reaches itself
abbrev pub DictHasNoCycle : Type 0
DictHasNoCycle = (d : Dictionary) (ranks : List ℕ) → AreRanks (mention_graph d) ranks → HasNoCycle (mention_graph d)

-- the answer is this list, if there is memory
abbrev pub IsAnswered : List ℕ → Result (Vec ℕ) OrderFault → Type 0
IsAnswered ranks (Ok list) = list.items ≡ ranks
IsAnswered ranks (Err fault) = fault ≡ NoMemory

-- a written list for which the test is true excludes a cycle and is the ranks, and so is the answer
abbrev pub WrittenRanksAreAnswered : Type 0
WrittenRanksAreAnswered = (d : Dictionary) (ranks : List ℕ) → IsTrue (are_ranks (mention_graph d) ranks)
    → HasNoCycle (mention_graph d) × AreRanks (mention_graph d) ranks × ((answer : Result (Vec ℕ) OrderFault) → Orders (mention_graph d) answer → IsAnswered ranks answer)
