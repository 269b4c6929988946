-- A `Dictionary` as contracts see it.
use Rattle.std.specs.Prelude.{ℕ, List, map}
use Rattle.dict_source.specs.Dictionary.{Written, dictionary_view}
use Rattle.dict_types.specs.TypedParts.{TypedDictionary}
use Rattle.dict_meaning.specs.Accepted.{Accepted}

-- a check of a table: its name and its code
abbrev pub Named : Type 0
Named = List ℕ × ℕ

abbrev pub names_of : List Named → List (List ℕ)
names_of checks = map (λ (c : Named). c.0) checks

-- what was accepted, with the facts as they lie in memory, and the checks with which it was accepted
pub record AcceptedParts : Type 0 where
  pub source : Written
  pub typed : TypedDictionary
  pub ranks : List ℕ
  pub checks : List Named

abbrev pub accepted : AcceptedParts → Accepted
accepted k = record { tree = dictionary_view k.source; typed = k.typed; ranks = k.ranks }
