-- The tables of a dictionary: values by keys that rise.
use Rattle.std.specs.Prelude.{ℕ, ℤ, ◌==◌, nat_lt, pos, Bool, true, false, ◌&&◌, IsTrue, List, [], ◌∷◌, map, Option, Some, None, Result, Ok, Err, unwrap_or, bytes_eq, if◌then◌else◌}
use Rattle.std.specs.Ordering.{int_eq}
use Rattle.std.specs.List.{list_all}
use Rattle.fact_values.specs.declared.fact_type.FactType.{FactType}
use Rattle.fact_values.specs.declared.fact_type.FactType.TheVariants as types
use Rattle.fact_values.specs.declared.fault.ValueFault.{ValueFault}
use Rattle.fact_values.specs.declared.value.Value.{Value}
use Rattle.fact_values.specs.declared.value.Value.TheVariants.{Boolean, Int, Dollar, Rational, Day, Text, Choice}
use Rattle.fact_values.specs.Days.{is_day}
use Rattle.fact_values.specs.Range.{is_in_range}
use Rattle.fact_values.specs.Rationals.{Ratio, checked_ratio}
use Rattle.fact_values.specs.Texts.{is_plain_text}
use Rattle.law_arithmetic.specs.declared.table.Row.{Row}
use Rattle.law_arithmetic.specs.Tables.{IsTable, is_table, key_of, looked_up}

-- a table under its name: the type of its keys, the type of its values, its rows, and the value below the first key
pub record LookupTable : Type 0 where
  pub name : List ℕ
  pub from : FactType
  pub to : FactType
  pub rows : List Row
  pub below : Value

-- ---- the values

abbrev pub is_ratio : Result Ratio ValueFault → Ratio → Bool
is_ratio (Ok p) q = int_eq p.num q.num && (p.den == q.den)
is_ratio (Err fault) q = false

-- the value is one of the type, but that the list of an Enum may lack the option
abbrev pub is_kind : FactType → Value → Bool
is_kind types.Boolean (Boolean b) = true
is_kind types.Int (Int n) = is_in_range n
is_kind types.Dollar (Dollar cents) = is_in_range cents
is_kind types.Rational (Rational q) = is_ratio (checked_ratio q.num (pos q.den)) q
is_kind types.Day (Day n) = is_day n
is_kind types.Text (Text s) = is_plain_text s
is_kind (types.Enum n) (Choice list place) = list == n
is_kind _ _ = false

-- the value of each row, behind the one below the first key
abbrev pub table_values : LookupTable → List Value
table_values t = t.below ∷ map (λ row. row.value) t.rows

-- ---- tables

-- the value that a key is
abbrev pub key_value : FactType → ℤ → Value
key_value types.Dollar key = Dollar key
key_value types.Day key = Day key
key_value _ key = Int key

abbrev pub is_key_type : FactType → Bool
is_key_type types.Int = true
is_key_type types.Dollar = true
is_key_type types.Day = true
is_key_type _ = false

-- each key is a value of the keys' type
abbrev pub are_keys : FactType → List Row → Bool
are_keys from rows = list_all (λ row. is_kind from (key_value from row.key)) rows

-- at most 1,000 rows with rising keys, and values of their types
pub record IsLookupTable (t : LookupTable) : Type 0 where
  pub key_type : IsTrue (is_key_type t.from)
  pub keys : IsTrue (are_keys t.from t.rows)
  pub rows : IsTable t.rows
  pub kinds : IsTrue (list_all (is_kind t.to) (table_values t))

-- the same, as a test
abbrev pub is_lookup_table : LookupTable → Bool
is_lookup_table t = is_key_type t.from && (are_keys t.from t.rows && (is_table t.rows && list_all (is_kind t.to) (table_values t)))

-- the value of the last row whose key is at most the value's, or that below the first key
abbrev pub value_for : LookupTable → Value → Value
value_for t v = unwrap_or (looked_up t.rows (key_of v)) t.below

-- ---- several of them

abbrev pub table_names : List LookupTable → List (List ℕ)
table_names tables = map (λ t. t.name) tables

-- the first of this name
abbrev pub table_named : List ℕ → List LookupTable → Option LookupTable
table_named name [] = None
table_named name (t ∷ ts) = if bytes_eq name t.name then Some t else table_named name ts

-- ---- options

-- the value is no option, or one that its list has
abbrev pub has_option : (ℕ → ℕ) → Value → Bool
has_option options (Choice list place) = nat_lt place (options list)
has_option options _ = true

-- each value is one of the table's type, where the lists have so many options
abbrev pub is_fit : (ℕ → ℕ) → LookupTable → Bool
is_fit options t = list_all (λ v. is_kind t.to v && has_option options v) (table_values t)

-- ---- a table of its parts

-- where its keys rise, and its values are of its type
abbrev pub if_table : LookupTable → Option LookupTable
if_table t = if is_lookup_table t then Some t else None

abbrev pub table_with_rows : List ℕ → FactType → FactType → List Row → Value → LookupTable
table_with_rows name from to rows below = record { name = name; from = from; to = to; rows = rows; below = below }
