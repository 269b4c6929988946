-- Laws of the JSON form in which a dictionary is printed.
use Rattle.std.specs.Prelude.{◌≤◌}
use Rattle.serde_json.specs.Data.{depth}
use Rattle.serde_json.specs.Read.{max_depth}
use Rattle.dict_source.specs.Dictionary.{Dictionary, IsWithinLimits}
use Rattle.dict_tree.specs.DictJson.{SpellsDictionary}
use Rattle.dict_print.specs.DictionaryJson.{dictionary_json, IsPrintable}

-- what is printed spells the dictionary
abbrev pub PrintedSpells : Type 0
PrintedSpells = (d : Dictionary) → IsPrintable d → SpellsDictionary (dictionary_json d) d

-- what is printed nests no deeper than a reader of JSON takes
abbrev pub PrintedIsShallow : Type 0
PrintedIsShallow = (d : Dictionary) → IsWithinLimits d → depth (dictionary_json d) ≤ max_depth
