-- What is true of every `Dictionary`.
use Rattle.std.specs.Prelude.{◌≡◌, ℕ, List, sum_by}
use Rattle.dict_source.specs.Dictionary.{Dictionary as Tree}
use Rattle.dict_source.specs.Facts.{fact_size}
use Rattle.dict_meaning.specs.Accepted.{IsAccepted}
use Rattle.dictionary.specs.AcceptedParts.{AcceptedParts, accepted, names_of}
use Rattle.dictionary.specs.ByRank.{AreByRank}
use Rattle.dictionary.specs.Checks.{has_check}
use Rattle.dict_meaning.specs.Homes.{homes}
use Rattle.dictionary.specs.SteadyDependencies.{TellsSteady}
use Rattle.dictionary.specs.declared.precomputed.Precomputed.{Precomputed}

-- the nodes of all facts
abbrev pub node_count : Tree → ℕ
node_count d = sum_by fact_size d.facts

-- what was computed of a dictionary with these ranks is right
pub record IsPrecomputed (d : Tree) (ranks : List ℕ) (w : Precomputed) : Type 0 where
  pub home : w.homes.items ≡ homes d
  pub node_number : w.nodes ≡ node_count d
  pub names_check : w.checked ≡ has_check d
  pub order : AreByRank ranks w.by_rank.items
  pub tells_steady : TellsSteady d ranks w.steady.items

-- it is accepted, and what was computed of it is right
pub record IsKept (k : AcceptedParts) (w : Precomputed) : Type 0 where
  pub is_accepted : IsAccepted (names_of k.checks) (accepted k)
  pub precomputed_of : IsPrecomputed (accepted k).tree k.ranks w
