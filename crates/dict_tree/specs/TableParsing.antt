-- Reading the tables of a dictionary from their JSON value.
use Rattle.std.specs.Prelude.{ℕ, ◌&&◌, nat_le, List, [], ◌∷◌, length, codes, Option, Some, None, option_map, option_and_then, if◌then◌else◌}
use Rattle.serde_json.specs.Data.{Data, Items, no_items, item, Members}
use Rattle.serde_json.specs.Find.{as_array, as_object, get}
use Rattle.fact_paths.specs.Parsing.{name_of}
use Rattle.fact_values.specs.declared.fact_type.FactType.{FactType}
use Rattle.fact_values.specs.declared.fact_type.FactType.TheVariants as types
use Rattle.law_arithmetic.specs.declared.table.Row.{Row}
use Rattle.law_arithmetic.specs.Tables.{key_of}
use Rattle.value_text.specs.Enums.{Listed, are_distinct, list_place}
use Rattle.value_text.specs.Values.{value_at}
use Rattle.dict_source.specs.Facts.{Stated, scalar, enum_of, writable_list, list_of, item_of}
use Rattle.fact_json.specs.FactParsing.{has_no_other, is_optional_text, text_at}
use Rattle.fact_json.specs.Names.{under_name}
use Rattle.fact_json.specs.Parsing.{two_texts}
use Rattle.fact_json.specs.StatedParsing.{writable_stated}
use Rattle.dict_tree.specs.TableJson.{table_keys}
use Rattle.dict_source.specs.Tables.{LookupTable, if_table, table_names, table_with_rows}

-- ---- types

abbrev pub key_types : List (List ℕ × FactType)
key_types = (codes "Int", types.Int) ∷ (codes "Dollar", types.Dollar) ∷ (codes "Day", types.Day) ∷ []

-- the type of keys that has this name
abbrev pub key_type_named : List ℕ → Option FactType
key_type_named text = under_name text key_types

-- the type of constants that is stated
abbrev pub constant_type_of : List Listed → Stated → Option FactType
constant_type_of enums (scalar t) = Some t
constant_type_of enums (enum_of name) = option_map (λ list. types.Enum list) (list_place name enums)
constant_type_of enums writable_list = None
constant_type_of enums (list_of u) = None
constant_type_of enums (item_of u) = None

abbrev pub constant_type_named : List Listed → List ℕ → Option FactType
constant_type_named enums text = option_and_then (constant_type_of enums) (writable_stated text)

-- ---- rows

-- from the texts of its key and its value
abbrev pub row_from : List Listed → FactType → FactType → List ℕ × List ℕ → Option Row
row_from enums from to p =
    option_and_then (λ key. option_map (λ value. record { key = key_of key; value = value }) (value_at enums to p.1)) (value_at [] from p.0)

-- `[K,V]`
abbrev pub row_of : List Listed → FactType → FactType → Data → Option Row
row_of enums from to d = option_and_then (row_from enums from to) (option_and_then two_texts (as_array d))

abbrev pub row_list : List Listed → FactType → FactType → Items → Option (List Row)
row_list enums from to no_items = Some []
row_list enums from to (item d ds) = option_and_then (λ row. option_map (λ rows. row ∷ rows) (row_list enums from to ds)) (row_of enums from to d)

-- ---- a table

-- of these types
unfoldable pub typed_table : List Listed → Data → List ℕ → FactType → FactType → Option LookupTable
typed_table enums d name from to =
    option_and_then (λ rows. option_and_then (λ below. if_table (table_with_rows name from to rows below)) (option_and_then (value_at enums to) (text_at (codes "else") d)))
    (option_and_then (row_list enums from to) (option_and_then as_array (get (codes "rows") d)))

unfoldable pub table_fields : List Listed → Data → Option LookupTable
table_fields enums d =
    option_and_then (λ name. option_and_then (λ from. option_and_then (typed_table enums d name from) (option_and_then (constant_type_named enums) (text_at (codes "to") d)))
    (option_and_then key_type_named (text_at (codes "from") d))) (option_and_then name_of (text_at (codes "name") d))

abbrev pub table_with : List Listed → Data → Members → Option LookupTable
table_with enums d members = if has_no_other table_keys members && is_optional_text (get (codes "description") d) then table_fields enums d else None

-- the table that the value spells, over these lists of options
abbrev pub table_of : List Listed → Data → Option LookupTable
table_of enums d = option_and_then (table_with enums d) (as_object d)

-- ---- lists of them

abbrev pub table_list : List Listed → Items → Option (List LookupTable)
table_list enums no_items = Some []
table_list enums (item d ds) = option_and_then (λ t. option_map (λ ts. t ∷ ts) (table_list enums ds)) (table_of enums d)

-- at most a hundred, each under a name of its own
abbrev pub if_few_apart : List LookupTable → Option (List LookupTable)
if_few_apart ts = if nat_le (length ts) 100 && are_distinct (table_names ts) then Some ts else None

-- none where there is no such member
abbrev pub tables_in : List Listed → Option Data → Option (List LookupTable)
tables_in enums None = Some []
tables_in enums (Some d) = option_and_then if_few_apart (option_and_then (table_list enums) (as_array d))
