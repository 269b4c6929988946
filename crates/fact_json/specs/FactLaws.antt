-- Laws of reading and spelling expressions and facts.
use Rattle.std.specs.Prelude.{◌≡◌, List, Some}
use Rattle.serde_json.specs.Data.{Data}
use Rattle.dict_source.specs.Tree.{Source}
use Rattle.dict_source.specs.Tables.{LookupTable}
use Rattle.dict_source.specs.Facts.{Fact}
use Rattle.dict_source.specs.Forms.{IsWellFormed}
use Rattle.fact_json.specs.Json.{Spells}
use Rattle.fact_json.specs.FactJson.{SpellsFact}
use Rattle.fact_json.specs.FactParsing.{fact_of}
use Rattle.fact_json.specs.Parsing.{tree_of}
use Rattle.fact_json.specs.declared.version.Version.{Version}

-- ---- expressions

-- an expression that is read is spelled
abbrev pub ReadIsSpelled : Type 0
ReadIsSpelled = (tables : List LookupTable) (d : Data) (t : Source) → tree_of tables d ≡ Some t → Spells tables d t

-- an expression that is spelled is read
abbrev pub SpelledIsRead : Type 0
SpelledIsRead = (tables : List LookupTable) (d : Data) (t : Source) → Spells tables d t → tree_of tables d ≡ Some t

-- ---- facts

-- a fact that is read is well formed
abbrev pub ReadIsWellFormed : Type 0
ReadIsWellFormed = (version : Version) (tables : List LookupTable) (d : Data) (f : Fact) → fact_of version tables d ≡ Some f → IsWellFormed tables f

-- a fact that is read is spelled
abbrev pub ReadFactIsSpelled : Type 0
ReadFactIsSpelled = (version : Version) (tables : List LookupTable) (d : Data) (f : Fact) → fact_of version tables d ≡ Some f → SpellsFact version tables d f

-- a fact that is spelled is read
abbrev pub SpelledFactIsRead : Type 0
SpelledFactIsRead = (version : Version) (tables : List LookupTable) (d : Data) (f : Fact) → SpellsFact version tables d f → fact_of version tables d ≡ Some f
