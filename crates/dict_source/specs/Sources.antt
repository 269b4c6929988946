-- What is true of every `DictSource`.
use Rattle.std.specs.Prelude.{List}
use Rattle.dict_source.specs.Dictionary.{Written, dictionary_view, IsValid}
use Rattle.dict_source.specs.PathIndex.{Entry, IsIndex}

-- the rules, and an index of its facts
pub record IsSource (w : Written) (entries : List Entry) : Type 0 where
  pub valid : IsValid (dictionary_view w)
  pub index : IsIndex (dictionary_view w).facts entries
