-- What the parts of a table keep, so that each has a text.
use Rattle.std.specs.Prelude.{List, IsTrue}
use Rattle.std.specs.List.{All}
use Rattle.std.specs.Str.{IsUtf8}
use Rattle.fact_values.specs.declared.fact_type.FactType.{FactType}
use Rattle.fact_values.specs.declared.value.Value.{Value}
use Rattle.law_arithmetic.specs.declared.table.Row.{Row}
use Rattle.value_text.specs.Enums.{Listed}
use Rattle.value_text.specs.ValueLaws.{IsValueOf}
use Rattle.value_text.specs.Values.{IsPrinted, printed}
use Rattle.dict_source.specs.Tables.{LookupTable, is_kind, key_value, table_values}

-- what is printed of the value is a text
pub record HasText (enums : List Listed) (value : Value) : Type 0 where
  pub listed : IsPrinted enums value
  pub utf8 : IsUtf8 (printed enums value)

-- the key is a value of the type, and the row's value has a text
pub record HasTexts (enums : List Listed) (from : FactType) (row : Row) : Type 0 where
  pub key : IsTrue (is_kind from (key_value from row.key))
  pub value : HasText enums row.value

-- each value is one of the table's type
abbrev pub IsTyped : List Listed → LookupTable → Type 0
IsTyped enums t = All (IsValueOf enums t.to) (table_values t)
