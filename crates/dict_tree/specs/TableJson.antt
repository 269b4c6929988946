-- The JSON form of a dictionary's tables.
use Rattle.std.specs.Prelude.{◌≡◌, ◌≤◌, ℕ, IsTrue, List, [], ◌∷◌, length, codes, Option, Some, None}
use Rattle.serde_json.specs.Data.{Data, string, array, Items, no_items, item}
use Rattle.serde_json.specs.Find.{get}
use Rattle.fact_paths.specs.Names.{is_name}
use Rattle.fact_values.specs.declared.fact_type.FactType.{FactType}
use Rattle.fact_values.specs.declared.fact_type.FactType.TheVariants as types
use Rattle.fact_values.specs.declared.value.Value.{Value}
use Rattle.law_arithmetic.specs.declared.table.Row.{Row}
use Rattle.law_arithmetic.specs.Tables.{key_of}
use Rattle.value_text.specs.Enums.{Listed, are_distinct, list_place}
use Rattle.value_text.specs.Values.{value_at}
use Rattle.dict_source.specs.Facts.{Stated, scalar, enum_of, writable_list, list_of, item_of}
use Rattle.dict_source.specs.Forms.{IsWritableType}
use Rattle.fact_json.specs.FactJson.{AreSpelled, IsObjectOf, IsOptionalText, IsNamed, scalar_text, stated_text}
use Rattle.dict_source.specs.Tables.{LookupTable, is_lookup_table, table_names}

abbrev pub table_keys : List (List ℕ)
table_keys = codes "name" ∷ codes "from" ∷ codes "to" ∷ codes "rows" ∷ codes "else" ∷ codes "description" ∷ []

-- the stated type is that of a constant
abbrev pub IsConstantType : List Listed → Stated → FactType → Type 0
IsConstantType enums (scalar t) u = t ≡ u
IsConstantType enums (enum_of name) u = (list : ℕ) × (list_place name enums ≡ Some list) × (types.Enum list ≡ u)
IsConstantType enums writable_list u = ⊥
IsConstantType enums (list_of p) u = ⊥
IsConstantType enums (item_of p) u = ⊥

-- the text states the type of the values
pub record StatesValues (enums : List Listed) (o : Option Data) (t : FactType) : Type 0 where
  pub stated : Stated
  pub text : o ≡ Some (string (stated_text stated))
  pub kind : IsWritableType stated × IsNamed stated
  pub type : IsConstantType enums stated t

-- `[K,V]`: the texts of the key, and of the value
pub record SpellsRow (enums : List Listed) (from to : FactType) (d : Data) (row : Row) : Type 0 where
  pub key_text : List ℕ
  pub value_text : List ℕ
  pub texts : d ≡ array (item (string key_text) (item (string value_text) no_items))
  pub key : Value
  pub read_key : value_at [] from key_text ≡ Some key
  pub key_is : row.key ≡ key_of key
  pub read_value : value_at enums to value_text ≡ Some row.value

-- the value spells the table, over these lists of options
pub record SpellsTable (enums : List Listed) (d : Data) (t : LookupTable) : Type 0 where
  pub keys : IsObjectOf table_keys d
  pub description : IsOptionalText (get (codes "description") d)
  pub name : get (codes "name") d ≡ Some (string t.name)
  pub named : IsTrue (is_name t.name)
  pub from : get (codes "from") d ≡ Some (string (scalar_text t.from))
  pub to : StatesValues enums (get (codes "to") d) t.to
  pub row_items : Items
  pub rows : get (codes "rows") d ≡ Some (array row_items)
  pub each_row : AreSpelled (SpellsRow enums t.from t.to) row_items t.rows
  pub below_text : List ℕ
  pub below : get (codes "else") d ≡ Some (string below_text)
  pub read_below : value_at enums t.to below_text ≡ Some t.below
  pub table : IsTrue (is_lookup_table t)

-- no tables where there is no such member, and else at most a hundred, each under a name of its own
abbrev pub SpellTables : List Listed → Option Data → List LookupTable → Type 0
SpellTables enums None ts = ts ≡ []
SpellTables enums (Some d) ts =
    (items : Items) × (d ≡ array items) × AreSpelled (SpellsTable enums) items ts × (length ts ≤ 100) × IsTrue (are_distinct (table_names ts))
