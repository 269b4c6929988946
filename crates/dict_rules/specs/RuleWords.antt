-- The tests of the rules say what the rules say in their own words.
use Rattle.std.specs.Prelude.{ℕ}
use Rattle.std.specs.Bool.{Decides}
use Rattle.dict_source.specs.Dictionary.{Dictionary}
use Rattle.dict_source.specs.Facts.{Fact}
use Rattle.dict_rules.specs.BadPath.{IsBadPath, is_bad_path}
use Rattle.dict_rules.specs.NoCollection.{HasNoCollection, lacks_collection}
use Rattle.dict_rules.specs.UnknownPath.{NamesNoFact, has_unknown_path}
use Rattle.dict_rules.specs.WrongPlace.{HasWrongPlace, has_wrong_place}

abbrev pub BadPathsAreByRule : Type 0
BadPathsAreByRule = (d : Dictionary) (n : ℕ) (f : Fact) → Decides (is_bad_path d n f) (IsBadPath d n f)

abbrev pub NoCollectionsAreByRule : Type 0
NoCollectionsAreByRule = (d : Dictionary) (n : ℕ) (f : Fact) → Decides (lacks_collection d n f) (HasNoCollection d n f)

abbrev pub UnknownPathsAreByRule : Type 0
UnknownPathsAreByRule = (d : Dictionary) (n : ℕ) (f : Fact) → Decides (has_unknown_path d n f) (NamesNoFact d n f)

abbrev pub WrongPlacesAreByRule : Type 0
WrongPlacesAreByRule = (d : Dictionary) (n : ℕ) (f : Fact) → Decides (has_wrong_place d n f) (HasWrongPlace d n f)
