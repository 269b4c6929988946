-- Laws of reading and spelling lists of options, tables and dictionaries.
use Rattle.std.specs.Prelude.{◌≡◌, List, Some, Result}
use Rattle.serde_json.specs.Data.{Data}
use Rattle.value_text.specs.Enums.{Listed}
use Rattle.dict_tree.specs.DictJson.{SpellsEnum, ValueGives}
use Rattle.dict_source.specs.Tables.{LookupTable}
use Rattle.dict_tree.specs.TableJson.{SpellsTable}
use Rattle.dict_tree.specs.TableParsing.{table_of}
use Rattle.dict_source.specs.Dictionary.{Dictionary}
use Rattle.dict_tree.specs.DictParsing.{enum_of, dictionary_of}
use Rattle.dict_tree.specs.declared.fault.TreeFault.{TreeFault}

-- ---- lists of options and tables

-- a list of options that is read is spelled
abbrev pub ReadEnumIsSpelled : Type 0
ReadEnumIsSpelled = (d : Data) (e : Listed) → enum_of d ≡ Some e → SpellsEnum d e

-- a list of options that is spelled is read
abbrev pub SpelledEnumIsRead : Type 0
SpelledEnumIsRead = (d : Data) (e : Listed) → SpellsEnum d e → enum_of d ≡ Some e

-- a table that is read is spelled
abbrev pub ReadTableIsSpelled : Type 0
ReadTableIsSpelled = (enums : List Listed) (d : Data) (t : LookupTable) → table_of enums d ≡ Some t → SpellsTable enums d t

-- a table that is spelled is read
abbrev pub SpelledTableIsRead : Type 0
SpelledTableIsRead = (enums : List Listed) (d : Data) (t : LookupTable) → SpellsTable enums d t → table_of enums d ≡ Some t

-- ---- dictionaries

-- what is read of a value is what the value gives: the dictionary that it spells, or the first fault
abbrev pub ReadIsGiven : Type 0
ReadIsGiven = (d : Data) (r : Result Dictionary TreeFault) → dictionary_of d ≡ r → ValueGives d r

-- what a value gives is read of it
abbrev pub GivenIsRead : Type 0
GivenIsRead = (d : Data) (r : Result Dictionary TreeFault) → ValueGives d r → dictionary_of d ≡ r
