-- The JSON form of a dictionary, and which part of a value isn't of the form.
use Rattle.std.specs.Prelude.{◌≡◌, ◌≢◌, ◌⊎◌, ℕ, ◌+◌, IsTrue, List, [], ◌∷◌, codes, Option, Some, None, Result, Ok, Err}
use Rattle.std.specs.List.{list_all}
use Rattle.serde_json.specs.Data.{Data, string, array, Items, no_items, item}
use Rattle.serde_json.specs.Find.{get}
use Rattle.fact_paths.specs.Names.{is_name}
use Rattle.value_text.specs.Enums.{Listed, are_distinct, names_of}
use Rattle.dict_source.specs.Tables.{LookupTable}
use Rattle.dict_tree.specs.TableJson.{SpellTables}
use Rattle.dict_source.specs.Facts.{Fact}
use Rattle.fact_json.specs.FactJson.{AreSpelled, IsObjectOf, IsOptionalText, items_from, SpellsFact}
use Rattle.dict_source.specs.Dictionary.{Dictionary, IsWithinLimits, too_many, too_deep}
use Rattle.fact_json.specs.Versions.{version_text}
use Rattle.dict_tree.specs.declared.fault.TreeFault.{TreeFault}
use Rattle.dict_tree.specs.declared.fault.TreeFault.TheVariants as faults
use Rattle.fact_json.specs.declared.version.Version.{Version}
use Rattle.fact_json.specs.declared.version.Version.TheVariants as versions

-- ---- enums

abbrev pub enum_keys : List (List ℕ)
enum_keys = codes "name" ∷ codes "options" ∷ []

-- the value spells the list of options
pub record SpellsEnum (d : Data) (e : Listed) : Type 0 where
  pub keys : IsObjectOf enum_keys d
  pub name : get (codes "name") d ≡ Some (string e.name)
  pub named : IsTrue (is_name e.name)
  pub options : get (codes "options") d ≡ Some (array (items_from string e.options))
  pub all_named : IsTrue (list_all is_name e.options)
  pub some : e.options ≢ []
  pub distinct : IsTrue (are_distinct e.options)

-- no lists where there is no such member, and each under a name of its own
abbrev pub SpellEnums : Option Data → List Listed → Type 0
SpellEnums None es = es ≡ []
SpellEnums (Some d) es = (items : Items) × (d ≡ array items) × AreSpelled SpellsEnum items es × IsTrue (are_distinct (names_of es))

-- ---- dictionaries

abbrev pub top_keys : Version → List (List ℕ)
top_keys versions.Law = codes "version" ∷ codes "facts" ∷ codes "enums" ∷ codes "tables" ∷ codes "description" ∷ []
top_keys _ = codes "version" ∷ codes "facts" ∷ codes "enums" ∷ codes "description" ∷ []

-- what lies outside the facts, of this version
pub record SpellsTop (d : Data) (stated : Version) (lists : List Listed) (listed : List LookupTable) (items : Items) : Type 0 where
  pub keys : IsObjectOf (top_keys stated) d
  pub description : IsOptionalText (get (codes "description") d)
  pub version : get (codes "version") d ≡ Some (string (version_text stated))
  pub enums : SpellEnums (get (codes "enums") d) lists
  pub tables : SpellTables lists (get (codes "tables") d) listed
  pub facts : get (codes "facts") d ≡ Some (array items)

-- the value spells the dictionary
pub record SpellsDictionary (d : Data) (dict : Dictionary) : Type 0 where
  pub version : Version
  pub items : Items
  pub top : SpellsTop d version dict.enums dict.tables items
  pub facts : AreSpelled (SpellsFact version dict.tables) items dict.facts

-- ---- what isn't of the form

-- nothing that lies outside the facts is spelled
abbrev pub IsTopWrong : Data → Type 0
IsTopWrong d = (version : Version) (enums : List Listed) (tables : List LookupTable) (items : Items) → ¬ (SpellsTop d version enums tables items)

-- no fact is spelled
abbrev pub IsFactWrong : Version → List LookupTable → Data → Type 0
IsFactWrong version tables d = (f : Fact) → ¬ (SpellsFact version tables d f)

-- the number of the first that spells no fact, where they are counted from n
abbrev pub IsFirstWrong : Version → List LookupTable → ℕ → Items → ℕ → Type 0
IsFirstWrong version tables n no_items m = ⊥
IsFirstWrong version tables n (item d ds) m = (IsFactWrong version tables d × (m ≡ n)) ⊎ ((f : Fact) × SpellsFact version tables d f × IsFirstWrong version tables (n + 1) ds m)

pub record IsWrongFact (d : Data) (number : ℕ) : Type 0 where
  pub version : Version
  pub enums : List Listed
  pub tables : List LookupTable
  pub items : Items
  pub top : SpellsTop d version enums tables items
  pub first : IsFirstWrong version tables 1 items number

-- The part that isn't of the form: 0 where it lies outside the facts, and else the first fact.
abbrev pub IsWrongAt : Data → ℕ → Type 0
IsWrongAt d number = (IsTopWrong d × (number ≡ 0)) ⊎ IsWrongFact d number

-- ---- what a value gives

-- The dictionary that it spells, where that keeps the limits, or the first fault: the part that isn't of the form
-- before the limits, and what there is too many of before what is too deep.
abbrev pub ValueGives : Data → Result Dictionary TreeFault → Type 0
ValueGives d (Ok dict) = SpellsDictionary d dict × IsWithinLimits dict
ValueGives d (Err (faults.Shape number)) = IsWrongAt d number
ValueGives d (Err (faults.TooMany what)) = (dict : Dictionary) × SpellsDictionary d dict × (too_many dict ≡ Some what)
ValueGives d (Err (faults.TooDeep number)) = (dict : Dictionary) × SpellsDictionary d dict × (too_many dict ≡ None) × (too_deep dict ≡ Some number)
ValueGives d (Err faults.TooLong) = ⊥
ValueGives d (Err faults.NotJson) = ⊥
ValueGives d (Err faults.NoMemory) = ⊥
