-- The JSON form of a fact.
use Rattle.std.specs.Prelude.{◌≡◌, ◌⊎◌, ℕ, IsTrue, List, [], ◌∷◌, ◌++◌, codes, Option, Some, None, option_map}
use Rattle.serde_json.specs.Data.{Data, null, boolean, number, string, array, object, Items, no_items, item}
use Rattle.serde_json.specs.Find.{get}
use Rattle.fact_paths.specs.Names.{is_name}
use Rattle.fact_paths.specs.Paths.{SpellsFactPath}
use Rattle.fact_values.specs.declared.fact_type.FactType.{FactType}
use Rattle.fact_values.specs.declared.fact_type.FactType.TheVariants as types
use Rattle.dict_source.specs.Tree.{Source, SourceCase}
use Rattle.dict_source.specs.Tables.{LookupTable}
use Rattle.dict_source.specs.Facts.{Fact, Stated, scalar, enum_of, writable_list, list_of, item_of, Bound, least, greatest, max_length, check}
use Rattle.dict_source.specs.Forms.{IsReadFrom, HasForm, IsWritableType, IsDerivedType}
use Rattle.fact_json.specs.Json.{text_json, json_of, Spells}
use Rattle.fact_json.specs.FactParsing.{has_no_other, writable_keys, derived_keys}
use Rattle.fact_json.specs.Profile.{has_operators}
use Rattle.fact_json.specs.declared.version.Version.{Version}

-- ---- members of an object

-- an object without a key but these
abbrev pub IsObjectOf : List (List ℕ) → Data → Type 0
IsObjectOf keys null = ⊥
IsObjectOf keys (boolean b) = ⊥
IsObjectOf keys (number n) = ⊥
IsObjectOf keys (string s) = ⊥
IsObjectOf keys (array ds) = ⊥
IsObjectOf keys (object members) = IsTrue (has_no_other keys members)

-- nothing, or a text
abbrev pub IsOptionalText : Option Data → Type 0
IsOptionalText None = Unit {0}
IsOptionalText (Some d) = (text : List ℕ) × (d ≡ string text)

-- an array's items, one after the other
abbrev pub items_from : {X : Type 0} → (X → Data) → List X → Items
items_from json [] = no_items
items_from json (x ∷ xs) = item (json x) (items_from json xs)

-- the items spell these, one after the other
abbrev pub AreSpelled : {X : Type 0} → (Data → X → Type 0) → Items → List X → Type 0
AreSpelled spells no_items [] = Unit {0}
AreSpelled spells (item d ds) (x ∷ xs) = spells d x × AreSpelled spells ds xs
AreSpelled spells no_items (x ∷ xs) = ⊥
AreSpelled spells (item d ds) [] = ⊥

-- ---- types

-- the text of a type
abbrev pub scalar_text : FactType → List ℕ
scalar_text types.Boolean = codes "Boolean"
scalar_text types.Int = codes "Int"
scalar_text types.Dollar = codes "Dollar"
scalar_text types.Rational = codes "Rational"
scalar_text types.Day = codes "Day"
scalar_text types.Text = codes "Text"
scalar_text (types.Enum n) = []
scalar_text (types.Collection c) = []
scalar_text (types.Item c) = []

abbrev pub stated_text : Stated → List ℕ
stated_text (scalar t) = scalar_text t
stated_text (enum_of n) = codes "Enum(" ++ (n ++ codes ")")
stated_text writable_list = codes "Collection"
stated_text (list_of p) = codes "Collection(" ++ (p.text ++ codes ")")
stated_text (item_of p) = codes "Item(" ++ (p.text ++ codes ")")

-- an enum is called by a name
abbrev pub IsNamed : Stated → Type 0
IsNamed (scalar t) = Unit {0}
IsNamed (enum_of n) = IsTrue (is_name n)
IsNamed writable_list = Unit {0}
IsNamed (list_of p) = Unit {0}
IsNamed (item_of p) = Unit {0}

-- ---- limits

abbrev pub limit_json : Bound → Data
limit_json (least text) = text_json (codes "Min") text
limit_json (greatest text) = text_json (codes "Max") text
limit_json (max_length text) = text_json (codes "MaxLength") text
limit_json (check text) = text_json (codes "Check") text

-- no limits where there is no such member
abbrev pub SpellLimits : Option Data → List Bound → Type 0
SpellLimits None limits = limits ≡ []
SpellLimits (Some d) limits = d ≡ array (items_from limit_json limits)

-- ---- expressions of a fact

-- an expression just where there is such a member
abbrev pub SpellsOptional : List LookupTable → Option Data → Option Source → Type 0
SpellsOptional tables None None = Unit {0}
SpellsOptional tables (Some d) (Some t) = Spells tables d t
SpellsOptional tables None (Some t) = ⊥
SpellsOptional tables (Some d) None = ⊥

abbrev pub SpellsRequired : List LookupTable → Option Data → Option Source → Type 0
SpellsRequired tables (Some d) (Some t) = Spells tables d t
SpellsRequired tables (Some d) None = ⊥
SpellsRequired tables None t = ⊥

-- `[C,V]`
abbrev pub conditional_json : SourceCase → Data
conditional_json c = array (item (json_of c.0) (item (json_of c.1) no_items))

abbrev pub SpellsConditional : List LookupTable → Option Data → Option SourceCase → Type 0
SpellsConditional tables None None = Unit {0}
SpellsConditional tables (Some d) (Some c) = HasForm tables c.0 × HasForm tables c.1 × (d ≡ conditional_json c)
SpellsConditional tables None (Some c) = ⊥
SpellsConditional tables (Some d) None = ⊥

-- ---- facts

-- the value spells the writable fact
pub record SpellsWritable (tables : List LookupTable) (d : Data) (f : Fact) : Type 0 where
  pub keys : IsObjectOf writable_keys d
  pub description : get (codes "description") d ≡ option_map string f.description
  pub path : get (codes "path") d ≡ Some (string f.path_text)
  pub read_path : IsReadFrom SpellsFactPath f.path_text f.path
  pub stated : get (codes "writable") d ≡ Some (string (stated_text f.stated))
  pub kind : IsWritableType f.stated × IsNamed f.stated
  pub limits : SpellLimits (get (codes "limits") d) f.limits
  pub main : f.main ≡ None
  pub conditional : f.conditional ≡ None
  pub placeholder : SpellsOptional tables (get (codes "placeholder") d) f.placeholder

-- the value spells the derived fact
pub record SpellsDerived (version : Version) (tables : List LookupTable) (d : Data) (f : Fact) : Type 0 where
  pub keys : IsObjectOf (derived_keys version) d
  pub description : get (codes "description") d ≡ option_map string f.description
  pub path : get (codes "path") d ≡ Some (string f.path_text)
  pub read_path : IsReadFrom SpellsFactPath f.path_text f.path
  pub stated : get (codes "derived") d ≡ Some (string (stated_text f.stated))
  pub kind : IsDerivedType f.stated × IsNamed f.stated
  pub limits : f.limits ≡ []
  pub main : SpellsRequired tables (get (codes "is") d) f.main
  pub conditional : SpellsConditional tables (get (codes "conditional") d) f.conditional
  pub placeholder : SpellsOptional tables (get (codes "placeholder") d) f.placeholder

-- the value spells the fact, whose operators the version has
pub record SpellsFact (version : Version) (tables : List LookupTable) (d : Data) (f : Fact) : Type 0 where
  pub form : SpellsWritable tables d f ⊎ SpellsDerived version tables d f
  pub operators : IsTrue (has_operators version f)
