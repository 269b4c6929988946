-- What acceptance gives: a dictionary with the types, constants, limits and ranks of its facts.
use Rattle.std.specs.Prelude.{ℕ, List}
use Rattle.dict_source.specs.Dictionary.{Dictionary as Tree, IsValid}
use Rattle.dict_types.specs.TypedParts.{TypedDictionary}
use Rattle.dict_types.specs.DictFaults.{IsTypedDictionary}
use Rattle.dict_order.specs.MentionGraph.{mention_graph}
use Rattle.dict_order.specs.Ranks.{AreRanks}

-- a dictionary as it is written, the types, constants and limits of its facts, and their ranks
pub record Accepted : Type 0 where
  pub tree : Tree
  pub typed : TypedDictionary
  pub ranks : List ℕ

-- it has none of the faults, with checks of these names
pub record IsAccepted (names : List (List ℕ)) (d : Accepted) : Type 0 where
  pub valid : IsValid d.tree
  pub typed : IsTypedDictionary d.tree names d.typed
  pub ranked : AreRanks (mention_graph d.tree) d.ranks
