-- What a session goes by: an accepted dictionary, and the checks with which it was accepted.
use Rattle.std.specs.Prelude.{List}
use Rattle.dict_source.specs.Dictionary.{Dictionary as Tree}
use Rattle.dict_meaning.specs.Accepted.{Accepted}
use Rattle.dictionary.specs.AcceptedParts.{AcceptedParts, Named, accepted}

pub record Rules : Type 0 where
  pub accepted : Accepted
  pub checks : List Named

abbrev pub rules : AcceptedParts → Rules
rules k = record { accepted = accepted k; checks = k.checks }

abbrev pub tree_of : Rules → Tree
tree_of r = r.accepted.tree
