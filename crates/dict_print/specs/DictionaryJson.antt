-- The JSON form in which a dictionary is printed.
use Rattle.std.specs.Prelude.{ℕ, ◌==◌, List, [], ◌∷◌, length, codes, Bool, true, false, not, ◌||◌, Option, Some, None, option_map, unwrap_or}
use Rattle.std.specs.List.{All, list_any}
use Rattle.serde_json.specs.Data.{Data, string, array, object, no_items, item, Members, no_members, put}
use Rattle.fact_paths.specs.Names.{IsName}
use Rattle.fact_values.specs.declared.fact_type.FactType.{FactType}
use Rattle.fact_values.specs.declared.fact_type.FactType.TheVariants as types
use Rattle.law_arithmetic.specs.declared.table.Row.{Row}
use Rattle.value_text.specs.Enums.{Listed, AreLists, name_at}
use Rattle.value_text.specs.Values.{printed}
use Rattle.dict_source.specs.Tree.{Source, SourceCase}
use Rattle.dict_source.specs.Tables.{LookupTable, IsLookupTable, key_value}
use Rattle.dict_source.specs.Facts.{Fact, Stated, scalar, enum_of}
use Rattle.dict_source.specs.Dictionary.{Dictionary, IsValid}
use Rattle.fact_json.specs.Json.{node_json, json_of}
use Rattle.fact_json.specs.FactJson.{items_from, scalar_text, stated_text, limit_json, conditional_json, IsNamed}
use Rattle.fact_json.specs.Profile.{fact_uses_law}
use Rattle.fact_json.specs.Versions.{version_text}
use Rattle.fact_json.specs.declared.version.Version.{Version}
use Rattle.fact_json.specs.declared.version.Version.TheVariants as versions

-- ---- members of an object

-- a member more, where there is a value for it
abbrev pub put_some : List ℕ → Option Data → Members → Members
put_some key None members = members
put_some key (Some d) members = put key d members

-- an array, where there is anything to list
abbrev pub some_array : {X : Type 0} → (X → Data) → List X → Option Data
some_array json [] = None
some_array json (x ∷ xs) = Some (array (items_from json (x ∷ xs)))

-- ---- cases of a switch

abbrev pub case_json : SourceCase → Data
case_json c = node_json (codes "Case") (item (json_of c.0) (item (json_of c.1) no_items))

-- ---- lists of options

abbrev pub enum_json : Listed → Data
enum_json e = object (put (codes "name") (string e.name) (put (codes "options") (array (items_from string e.options)) no_members))

-- ---- tables

-- the type of a table's values, as it is stated: an Enum by the name of its list
abbrev pub stated_type : List Listed → FactType → Stated
stated_type enums (types.Enum list) = enum_of (unwrap_or (name_at enums list) [])
stated_type enums t = scalar t

-- `[K,V]`
abbrev pub row_json : List Listed → FactType → Row → Data
row_json enums from row = array (item (string (printed [] (key_value from row.key))) (item (string (printed enums row.value)) no_items))

abbrev pub table_members : List Listed → LookupTable → Members
table_members enums t =
    put (codes "name") (string t.name) (put (codes "from") (string (scalar_text t.from)) (put (codes "to") (string (stated_text (stated_type enums t.to))) (put (codes "rows") (array (items_from (row_json enums t.from) t.rows)) (put (codes "else") (string (printed enums t.below)) no_members))))

-- over these lists of options
abbrev pub table_json : List Listed → LookupTable → Data
table_json enums t = object (table_members enums t)

-- ---- facts

abbrev pub last_members : Fact → Members
last_members f = put_some (codes "placeholder") (option_map json_of f.placeholder) (put_some (codes "description") (option_map string f.description) no_members)

abbrev pub writable_members : Fact → Members
writable_members f = put (codes "path") (string f.path_text) (put (codes "writable") (string (stated_text f.stated)) (put_some (codes "limits") (some_array limit_json f.limits) (last_members f)))

abbrev pub writable_json : Fact → Data
writable_json f = object (writable_members f)

abbrev pub derived_members : Fact → Source → Members
derived_members f main =
    put (codes "path") (string f.path_text) (put (codes "derived") (string (stated_text f.stated)) (put (codes "is") (json_of main) (put_some (codes "conditional") (option_map conditional_json f.conditional) (last_members f))))

abbrev pub derived_json : Fact → Source → Data
derived_json f main = object (derived_members f main)

-- a fact with a main expression is derived, and another is writable
abbrev pub json_by_main : Fact → Option Source → Data
json_by_main f None = writable_json f
json_by_main f (Some main) = derived_json f main

abbrev pub fact_json : Fact → Data
fact_json f = json_by_main f f.main

-- ---- the whole

-- it has what only the law profile has: tables, or one of its operators
abbrev pub needs_law : Dictionary → Bool
needs_law d = not (length d.tables == 0) || list_any fact_uses_law d.facts

-- the law profile where it is needed
abbrev pub version_for : Bool → Version
version_for true = versions.Law
version_for false = versions.Second

abbrev pub printed_version : Dictionary → Version
printed_version d = version_for (needs_law d)

abbrev pub all_members : Dictionary → Members
all_members d =
    put (codes "version") (string (version_text (printed_version d))) (put (codes "facts") (array (items_from fact_json d.facts)) (put_some (codes "tables") (some_array (table_json d.enums) d.tables) (put_some (codes "enums") (some_array enum_json d.enums) no_members)))

-- in version 2 or the law profile, with no member for enums or tables where there are none
abbrev pub dictionary_json : Dictionary → Data
dictionary_json d = object (all_members d)

-- ---- which dictionaries have this form

-- what every table in memory keeps: its name, and its rules
pub record IsSound (t : LookupTable) : Type 0 where
  pub named : IsName t.name
  pub table : IsLookupTable t

-- the rules of every source: the limits, and names where names are due
pub record IsPrintable (d : Dictionary) : Type 0 where
  pub valid : IsValid d
  pub lists : AreLists d.enums
  pub tables : All IsSound d.tables
  pub named : All (λ f. IsNamed f.stated) d.facts
