-- What is printed of a table spells it.
use Rattle.std.proofs.Common.{◌≡◌, ℕ, ◌≤◌, true, ◌&&◌, List, [], ◌∷◌, length, map, Some, option_map, refl, ap, ◌∙◌, arith}
use Rattle.std.specs.Prelude.{ℤ, slice_get}
use Rattle.std.specs.List.{All, list_all}
use Rattle.std.proofs.lemmas.List.Elements.{All-cons, All-head, All-nil, All-tail}
use Rattle.std.proofs.lemmas.Option.{slice_get-map, slice_get_within}
use Rattle.common_lemmas.proofs.Bools.{and_intro, both}
use Rattle.common_lemmas.proofs.Options.{something}
use Rattle.fact_values.specs.declared.fact_type.FactType.{FactType}
use Rattle.fact_values.specs.declared.fact_type.FactType.TheVariants as types
use Rattle.fact_values.specs.declared.value.Value.{Value}
use Rattle.fact_values.specs.declared.value.Value.TheVariants as values
use Rattle.law_arithmetic.specs.declared.table.Row.{Row}
use Rattle.law_arithmetic.specs.Tables.{is_table, key_of}
use Rattle.value_text.specs.Enums.{AreLists, Listed, are_distinct, names_of, option_at}
use Rattle.value_text.specs.ValueLaws.{IsValueOf}
use Rattle.value_text.specs.Values.{IsRead, printed}
use Rattle.value_text.proofs.ChoiceLaws.{place_found}
use Rattle.value_text.proofs.TypeLaws.{read_printed}
use Rattle.dict_source.specs.Facts.{Stated}
use Rattle.fact_json.specs.FactJson.{AreSpelled, IsNamed, items_from}
use Rattle.dict_source.specs.Forms.{IsWritableType}
use Rattle.dict_tree.specs.TableJson.{IsConstantType, SpellTables, SpellsRow, SpellsTable}
use Rattle.dict_source.specs.Tables.{IsLookupTable, LookupTable, are_keys, is_key_type, is_kind, is_lookup_table, key_value, table_names, table_values}
use Rattle.dict_print.specs.DictionaryJson.{IsSound, row_json, some_array, stated_type, table_json}
use Rattle.dict_print.specs.TableTexts.{HasText, HasTexts, IsTyped}
use Rattle.value_text.proofs.SpelledTexts.{are_named, list_there}
use Rattle.dict_print.proofs.TextLaws.{has_text}

-- ---- keys

no_lists : AreLists []
no_lists = record { few = omega arith; distinct = refl; listed = refl }

key_is_typed : (from : FactType) (key : ℤ) → is_kind from (key_value from key) ≡ true → IsValueOf [] from (key_value from key)
key_is_typed types.Int key h = h
key_is_typed types.Dollar key h = h
key_is_typed types.Day key h = h
key_is_typed t key h = absurd cc

key_again : (from : FactType) (key : ℤ) → key ≡ key_of (key_value from key)
key_again types.Dollar key = refl
key_again types.Day key = refl
key_again t key = refl

pub key_has_text : (from : FactType) (key : ℤ) → is_kind from (key_value from key) ≡ true → HasText [] (key_value from key)
key_has_text from key h = has_text [] from (key_value from key) no_lists (key_is_typed from key h)

-- ---- the type of the values

enum_there : (enums : List Listed) (list : ℕ) (v : Value) → IsValueOf enums (types.Enum list) v → (e : Listed) × (slice_get enums list ≡ Some e)
enum_there enums list (values.Choice at place) h =
    let text = something (option_at enums list place) h.1 in
    let e = list_there enums list place text.0 text.1 in
    (e.0, e.1)
enum_there enums list v h = absurd h

-- a type that has a value is read
is_read : (enums : List Listed) (t : FactType) (v : Value) → IsValueOf enums t v → IsRead enums t
is_read enums types.Boolean v h = tt
is_read enums types.Int v h = tt
is_read enums types.Dollar v h = tt
is_read enums types.Rational v h = tt
is_read enums types.Day v h = tt
is_read enums types.Text v h = tt
is_read enums (types.Enum list) v h = let e = enum_there enums list v h in slice_get_within enums list e.0 e.1
is_read enums t v h = absurd h

name_there : (enums : List Listed) (list : ℕ) (e : Listed) → slice_get enums list ≡ Some e → slice_get (names_of enums) list ≡ Some e.name
name_there enums list e at = slice_get-map (λ (l : Listed). l.name) enums list ∙ ap (option_map (λ (l : Listed). l.name)) at

-- the stated type is that of constants
abbrev States : List Listed → Stated → FactType → Type 0
States enums stated t = (IsWritableType stated × IsNamed stated) × IsConstantType enums stated t

enum_stated : (enums : List Listed) (list : ℕ) (e : Listed) → AreLists enums → slice_get enums list ≡ Some e → States enums (stated_type enums (types.Enum list)) (types.Enum list)
enum_stated enums list e are at = rw at ((tt, (are_named enums list e are at).0), (list, place_found e.name (names_of enums) list are.distinct (name_there enums list e at), refl))

type_stated : (enums : List Listed) (t : FactType) (v : Value) → AreLists enums → IsValueOf enums t v → States enums (stated_type enums t) t
type_stated enums types.Boolean v are h = ((tt, tt), refl)
type_stated enums types.Int v are h = ((tt, tt), refl)
type_stated enums types.Dollar v are h = ((tt, tt), refl)
type_stated enums types.Rational v are h = ((tt, tt), refl)
type_stated enums types.Day v are h = ((tt, tt), refl)
type_stated enums types.Text v are h = ((tt, tt), refl)
type_stated enums (types.Enum list) v are h = let e = enum_there enums list v h in enum_stated enums list e.0 are e.1
type_stated enums t v are h = absurd h

-- ---- rows

abbrev values_in : List Row → List Value
values_in rows = map (λ (row : Row). row.value) rows

row_spelled : (enums : List Listed) (from to : FactType) (row : Row) → AreLists enums → is_kind from (key_value from row.key) ≡ true → IsValueOf enums to row.value → SpellsRow enums from to (row_json enums from row) row
row_spelled enums from to row are key value = record {
  key_text = printed [] (key_value from row.key);
  value_text = printed enums row.value;
  texts = refl;
  key = key_value from row.key;
  read_key = read_printed [] from (key_value from row.key) no_lists (key_is_typed from row.key key);
  key_is = key_again from row.key;
  read_value = read_printed enums to row.value are value;
}

rows_spelled : (enums : List Listed) (from to : FactType) (rows : List Row) → AreLists enums → are_keys from rows ≡ true → All (IsValueOf enums to) (values_in rows) → AreSpelled (SpellsRow enums from to) (items_from (row_json enums from) rows) rows
rows_spelled enums from to [] are keys typed = tt
rows_spelled enums from to (row ∷ rows) are keys typed =
    let key = both (is_kind from (key_value from row.key)) (are_keys from rows) keys in (
      row_spelled enums from to row are key.0 (All-head (IsValueOf enums to) row.value (values_in rows) typed),
      rows_spelled enums from to rows are key.1 (All-tail (IsValueOf enums to) row.value (values_in rows) typed),
    )

rows_have_texts : (enums : List Listed) (from to : FactType) (rows : List Row) → AreLists enums → are_keys from rows ≡ true → All (IsValueOf enums to) (values_in rows) → All (HasTexts enums from) rows
rows_have_texts enums from to [] are keys typed = All-nil (HasTexts enums from)
rows_have_texts enums from to (row ∷ rows) are keys typed =
    let key = both (is_kind from (key_value from row.key)) (are_keys from rows) keys in
    let value = has_text enums to row.value are (All-head (IsValueOf enums to) row.value (values_in rows) typed) in
    All-cons (HasTexts enums from) row rows (record { key = key.0; value = value }) (rows_have_texts enums from to rows are key.1 (All-tail (IsValueOf enums to) row.value (values_in rows) typed))

-- ---- a table

pub below_typed : (enums : List Listed) (t : LookupTable) → IsTyped enums t → IsValueOf enums t.to t.below
below_typed enums t typed = All-head (IsValueOf enums t.to) t.below (values_in t.rows) typed

pub below_has_text : (enums : List Listed) (t : LookupTable) → AreLists enums → IsTyped enums t → HasText enums t.below
below_has_text enums t are typed = has_text enums t.to t.below are (below_typed enums t typed)

pub to_is_read : (enums : List Listed) (t : LookupTable) → IsTyped enums t → IsRead enums t.to
to_is_read enums t typed = is_read enums t.to t.below (below_typed enums t typed)

pub table_has_texts : (enums : List Listed) (t : LookupTable) → AreLists enums → IsLookupTable t → IsTyped enums t → All (HasTexts enums t.from) t.rows
table_has_texts enums t are is typed = rows_have_texts enums t.from t.to t.rows are is.keys (All-tail (IsValueOf enums t.to) t.below (values_in t.rows) typed)

is_one : (t : LookupTable) → IsLookupTable t → is_lookup_table t ≡ true
is_one t h =
    let kinds = list_all (is_kind t.to) (table_values t) in
    and_intro (is_key_type t.from) (are_keys t.from t.rows && (is_table t.rows && kinds)) h.key_type (and_intro (are_keys t.from t.rows) (is_table t.rows && kinds) h.keys (and_intro (is_table t.rows) kinds h.rows h.kinds))

table_spelled : (enums : List Listed) (t : LookupTable) → AreLists enums → IsSound t → IsTyped enums t → SpellsTable enums (table_json enums t) t
table_spelled enums t are sound typed =
    let to = type_stated enums t.to t.below are (below_typed enums t typed) in
    record {
      keys = refl;
      description = tt;
      name = refl;
      named = sound.named;
      from = refl;
      to = record { stated = stated_type enums t.to; text = refl; kind = to.0; type = to.1 };
      row_items = items_from (row_json enums t.from) t.rows;
      rows = refl;
      each_row = rows_spelled enums t.from t.to t.rows are sound.table.keys (All-tail (IsValueOf enums t.to) t.below (values_in t.rows) typed);
      below_text = printed enums t.below;
      below = refl;
      read_below = read_printed enums t.to t.below are (below_typed enums t typed);
      table = is_one t sound.table;
    }

each_spelled : (enums : List Listed) (ts : List LookupTable) → AreLists enums → All IsSound ts → All (IsTyped enums) ts → AreSpelled (SpellsTable enums) (items_from (table_json enums) ts) ts
each_spelled enums [] are sound typed = tt
each_spelled enums (t ∷ ts) are sound typed = (
  table_spelled enums t are (All-head IsSound t ts sound) (All-head (IsTyped enums) t ts typed),
  each_spelled enums ts are (All-tail IsSound t ts sound) (All-tail (IsTyped enums) t ts typed),
)

pub tables_spelled : (enums : List Listed) (ts : List LookupTable) → AreLists enums → All IsSound ts → All (IsTyped enums) ts → length ts ≤ 100 → are_distinct (table_names ts) ≡ true → SpellTables enums (some_array (table_json enums) ts) ts
tables_spelled enums [] are sound typed few distinct = refl
tables_spelled enums (t ∷ ts) are sound typed few distinct = (items_from (table_json enums) (t ∷ ts), refl, each_spelled enums (t ∷ ts) are sound typed, few, distinct)
