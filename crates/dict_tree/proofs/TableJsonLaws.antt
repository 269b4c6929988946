-- A table that is read is spelled, and one that is spelled is read.
use Rattle.std.proofs.Common.{◌≡◌, ℕ, List, [], ◌∷◌, true, ◌&&◌, length, map, Option, Some, None, option_and_then, refl, sym, ap, subst, ◌∙◌, le-leb, arith}
use Rattle.std.specs.Prelude.{codes, nat_le}
use Rattle.std.proofs.lemmas.Bool.{leb-true}
use Rattle.std.proofs.lemmas.Option.{same_Some}
use Rattle.common_lemmas.proofs.Bools.{both, chosen}
use Rattle.common_lemmas.proofs.Options.{both_some, mapped}
use Rattle.serde_json.specs.Data.{Data, string, array, Items, no_items, item}
use Rattle.serde_json.specs.Find.{as_str, as_array, as_object, get}
use Rattle.fact_paths.specs.Parsing.{name_of}
use Rattle.fact_values.specs.declared.fact_type.FactType.{FactType}
use Rattle.fact_values.specs.declared.fact_type.FactType.TheVariants as types
use Rattle.fact_values.specs.declared.value.Value.{Value}
use Rattle.law_arithmetic.specs.declared.table.Row.{Row}
use Rattle.law_arithmetic.specs.Tables.{is_table}
use Rattle.value_text.specs.Enums.{Listed, are_distinct, list_place}
use Rattle.value_text.specs.Values.{value_at}
use Rattle.value_text.specs.ValueLaws.{IsValueOf}
use Rattle.value_text.proofs.ParsingLaws.{value_again as value_again_spelled}
use Rattle.value_text.proofs.TypeLaws.{of_type}
use Rattle.std.specs.List.{All, list_all}
use Rattle.std.proofs.lemmas.List.Elements.{All-nil, All-cons}
use Rattle.dict_source.specs.Dictionary.{AreTables}
use Rattle.dict_source.specs.Facts.{Stated, scalar, enum_of}
use Rattle.fact_json.specs.FactJson.{AreSpelled, scalar_text, stated_text}
use Rattle.fact_json.specs.FactParsing.{has_no_other, is_optional_text, text_at}
use Rattle.fact_json.specs.Parsing.{two_texts}
use Rattle.fact_json.specs.StatedParsing.{writable_stated}
use Rattle.dict_tree.specs.TableJson.{IsConstantType, SpellTables, SpellsRow, SpellsTable, StatesValues, table_keys}
use Rattle.dict_tree.specs.TableParsing.{constant_type_named, constant_type_of, if_few_apart, key_type_named, key_types, row_from, row_list, row_of, table_fields, table_list, table_of, table_with, tables_in, typed_table}
use Rattle.dict_source.specs.Tables.{table_with_rows, LookupTable, are_keys, is_key_type, is_kind, is_lookup_table, table_names, table_values}
use Rattle.dict_tree.proofs.EnumJsonLaws.{name_found, name_again}
use Rattle.fact_json.proofs.ExprLaws.{two_texts_are}
use Rattle.fact_json.proofs.MemberLaws.{object_is, is_object, array_is, optional_text_found, optional_text_again, text_found, array_found}
use Rattle.dict_source.proofs.Guards.{guarded}
use Rattle.fact_json.proofs.NameLaws.{named_so}
use Rattle.fact_json.proofs.StatedLaws.{writable_stated_found, writable_stated_again}

-- ---- the type of the keys

key_type_found : (o : Option Data) (t : FactType) → option_and_then key_type_named (option_and_then as_str o) ≡ Some t → o ≡ Some (string (scalar_text t))
key_type_found o t e =
    let a = both_some key_type_named (option_and_then as_str o) t e in
    text_found o (scalar_text t) (a.1 ∙ ap Some (named_so scalar_text key_types a.0 t refl a.2))

key_type_named-again : (t : FactType) → is_key_type t ≡ true → key_type_named (scalar_text t) ≡ Some t
key_type_named-again types.Int h = refl
key_type_named-again types.Dollar h = refl
key_type_named-again types.Day h = refl
key_type_named-again t h = absurd cc

key_type_again : (o : Option Data) (t : FactType) → o ≡ Some (string (scalar_text t)) → is_key_type t ≡ true → option_and_then key_type_named (option_and_then as_str o) ≡ Some t
key_type_again o t e h = rw e (key_type_named-again t h)

-- ---- the type of the values

constant_type_found : (enums : List Listed) (s : Stated) (t : FactType) → constant_type_of enums s ≡ Some t → IsConstantType enums s t
constant_type_found enums (scalar u) t e = same_Some u t e
constant_type_found enums (enum_of name) t e = let a = mapped _ (list_place name enums) t e in (a.0, a.1, sym a.2)
constant_type_found enums s t e = absurd cc

constant_type_again : (enums : List Listed) (s : Stated) (t : FactType) → IsConstantType enums s t → constant_type_of enums s ≡ Some t
constant_type_again enums (scalar u) t h = ap Some h
constant_type_again enums (enum_of name) t h = rw h.1 (ap Some h.2)
constant_type_again enums s t h = absurd h

values_found : (enums : List Listed) (o : Option Data) (t : FactType) → option_and_then (constant_type_named enums) (option_and_then as_str o) ≡ Some t → StatesValues enums o t
values_found enums o t e =
    let a = both_some (constant_type_named enums) (option_and_then as_str o) t e in
    let b = both_some (constant_type_of enums) (writable_stated a.0) t a.2 in
    let s = writable_stated_found a.0 b.0 b.1 in
    record { stated = b.0; text = text_found o (stated_text b.0) (a.1 ∙ ap Some s.2); kind = (s.0, s.1); type = constant_type_found enums b.0 t b.2 }

values_again : (enums : List Listed) (o : Option Data) (t : FactType) → StatesValues enums o t → option_and_then (constant_type_named enums) (option_and_then as_str o) ≡ Some t
values_again enums o t h =
    ap (λ (x : Option Data). option_and_then (constant_type_named enums) (option_and_then as_str x)) h.text
    ∙ ap (option_and_then (constant_type_of enums)) (writable_stated_again h.stated h.kind.0 h.kind.1)
    ∙ constant_type_again enums h.stated t h.type

-- ---- rows

row_found : (enums : List Listed) (from to : FactType) (d : Data) (row : Row) → row_of enums from to d ≡ Some row → SpellsRow enums from to d row
row_found enums from to d row e =
    let a = both_some (row_from enums from to) (option_and_then two_texts (as_array d)) row e in
    let p = both_some two_texts (as_array d) a.0 a.1 in
    let k = both_some _ (value_at [] from a.0.0) row a.2 in
    let v = mapped _ (value_at enums to a.0.1) row k.2 in
    record {
      key_text = a.0.0;
      value_text = a.0.1;
      texts = array_is d p.0 p.1 ∙ ap array (two_texts_are p.0 a.0 p.2);
      key = k.0;
      read_key = k.1;
      key_is = ap (λ (r : Row). r.key) v.2;
      read_value = v.1 ∙ ap (λ (r : Row). Some r.value) (sym v.2);
    }

row_again : (enums : List Listed) (from to : FactType) (d : Data) (row : Row) → SpellsRow enums from to d row → row_of enums from to d ≡ Some row
row_again enums from to d row h = ap (row_of enums from to) h.texts ∙ rw (h.read_key, h.read_value, ← h.key_is) refl

rows_found : (enums : List Listed) (from to : FactType) (ds : Items) (rows : List Row) → row_list enums from to ds ≡ Some rows → AreSpelled (SpellsRow enums from to) ds rows
rows_found enums from to no_items rows e = subst (AreSpelled (SpellsRow enums from to) no_items) (same_Some [] rows e) tt
rows_found enums from to (item d ds) rows e =
    let a = both_some _ (row_of enums from to d) rows e in
    let b = mapped _ (row_list enums from to ds) rows a.2 in
    rw b.2 (row_found enums from to d a.0 a.1, rows_found enums from to ds b.0 b.1)

rows_again : (enums : List Listed) (from to : FactType) (ds : Items) (rows : List Row) → AreSpelled (SpellsRow enums from to) ds rows → row_list enums from to ds ≡ Some rows
rows_again enums from to no_items [] h = refl
rows_again enums from to (item d ds) (row ∷ rows) h = rw (row_again enums from to d row h.0, rows_again enums from to ds rows h.1) refl
rows_again enums from to ds rows h = absurd h

rows_in_again : (enums : List Listed) (from to : FactType) (o : Option Data) (ds : Items) (rows : List Row) → o ≡ Some (array ds) → AreSpelled (SpellsRow enums from to) ds rows
    → option_and_then (row_list enums from to) (option_and_then as_array o) ≡ Some rows
rows_in_again enums from to o ds rows e h = rw e (rows_again enums from to ds rows h)

value_again : (enums : List Listed) (to : FactType) (o : Option Data) (text : List ℕ) (v : Value) → o ≡ Some (string text) → value_at enums to text ≡ Some v → option_and_then (value_at enums to) (option_and_then as_str o) ≡ Some v
value_again enums to o text v e h = rw e h

-- ---- a table

pub table_found : (enums : List Listed) (d : Data) (t : LookupTable) → table_of enums d ≡ Some t → SpellsTable enums d t
unfolding table_fields typed_table
table_found enums d t e =
    let a = both_some (table_with enums d) (as_object d) t e in
    let g = guarded (has_no_other table_keys a.0 && is_optional_text (get (codes "description") d)) _ t a.2 in
    let p = both (has_no_other table_keys a.0) (is_optional_text (get (codes "description") d)) g.0 in
    let n = both_some _ (option_and_then name_of (text_at (codes "name") d)) t g.1 in
    let f = both_some _ (option_and_then key_type_named (text_at (codes "from") d)) t n.2 in
    let o = both_some (typed_table enums d n.0 f.0) (option_and_then (constant_type_named enums) (text_at (codes "to") d)) t f.2 in
    let r = both_some _ (option_and_then (row_list enums f.0 o.0) (option_and_then as_array (get (codes "rows") d))) t o.2 in
    let l = both_some (row_list enums f.0 o.0) (option_and_then as_array (get (codes "rows") d)) r.0 r.1 in
    let b = both_some _ (option_and_then (value_at enums o.0) (text_at (codes "else") d)) t r.2 in
    let v = both_some (value_at enums o.0) (text_at (codes "else") d) b.0 b.1 in
    let made : LookupTable = table_with_rows n.0 f.0 o.0 r.0 b.0 in
    let c = chosen (is_lookup_table made) made t b.2 in
    let name = name_found (get (codes "name") d) n.0 n.1 in
    subst (SpellsTable enums d) c.1 (record {
      keys = object_is table_keys d a.0 a.1 p.0;
      description = optional_text_found (get (codes "description") d) p.1;
      name = name.0;
      named = name.1;
      from = key_type_found (get (codes "from") d) f.0 f.1;
      to = values_found enums (get (codes "to") d) o.0 o.1;
      row_items = l.0;
      rows = array_found (get (codes "rows") d) l.0 l.1;
      each_row = rows_found enums f.0 o.0 l.0 r.0 l.2;
      below_text = v.0;
      below = text_found (get (codes "else") d) v.0 v.1;
      read_below = v.2;
      table = c.0;
    })

fields_again : (enums : List Listed) (d : Data) (t : LookupTable) → SpellsTable enums d t → table_fields enums d ≡ Some t
unfolding table_fields typed_table
fields_again enums d t h =
    let key = both (is_key_type t.from) (are_keys t.from t.rows && (is_table t.rows && list_all (is_kind t.to) (table_values t))) h.table in
    rw (
      name_again (get (codes "name") d) t.name h.name h.named,
      key_type_again (get (codes "from") d) t.from h.from key.0,
      values_again enums (get (codes "to") d) t.to h.to,
      rows_in_again enums t.from t.to (get (codes "rows") d) h.row_items t.rows h.rows h.each_row,
      value_again enums t.to (get (codes "else") d) h.below_text t.below h.below h.read_below,
      h.table,
    ) refl

pub table_again : (enums : List Listed) (d : Data) (t : LookupTable) → SpellsTable enums d t → table_of enums d ≡ Some t
table_again enums d t h =
    let o = is_object table_keys d h.keys in
    ap (λ (x : Data). option_and_then (table_with enums d) (as_object x)) o.1
    ∙ rw (o.2, optional_text_again (get (codes "description") d) h.description) (fields_again enums d t h)

-- ---- lists of them

list_found : (enums : List Listed) (ds : Items) (ts : List LookupTable) → table_list enums ds ≡ Some ts → AreSpelled (SpellsTable enums) ds ts
list_found enums no_items ts e = subst (AreSpelled (SpellsTable enums) no_items) (same_Some [] ts e) tt
list_found enums (item d ds) ts e =
    let a = both_some _ (table_of enums d) ts e in
    let b = mapped _ (table_list enums ds) ts a.2 in
    rw b.2 (table_found enums d a.0 a.1, list_found enums ds b.0 b.1)

list_again : (enums : List Listed) (ds : Items) (ts : List LookupTable) → AreSpelled (SpellsTable enums) ds ts → table_list enums ds ≡ Some ts
list_again enums no_items [] h = refl
list_again enums (item d ds) (t ∷ ts) h = rw (table_again enums d t h.0, list_again enums ds ts h.1) refl
list_again enums ds ts h = absurd h

pub tables_found : (enums : List Listed) (o : Option Data) (ts : List LookupTable) → tables_in enums o ≡ Some ts → SpellTables enums o ts
tables_found enums None ts e = sym (same_Some [] ts e)
tables_found enums (Some d) ts e =
    let a = both_some if_few_apart (option_and_then (table_list enums) (as_array d)) ts e in
    let q = chosen (nat_le (length a.0) 100 && are_distinct (table_names a.0)) a.0 ts a.2 in
    let p = both (nat_le (length a.0) 100) (are_distinct (table_names a.0)) q.0 in
    let l = both_some (table_list enums) (as_array d) a.0 a.1 in
    subst (SpellTables enums (Some d)) q.1 (l.0, array_is d l.0 l.1, list_found enums l.0 a.0 l.2, leb-true (length a.0) 100 p.0, p.1)

pub tables_again : (enums : List Listed) (o : Option Data) (ts : List LookupTable) → SpellTables enums o ts → tables_in enums o ≡ Some ts
tables_again enums None ts h = ap Some (sym h)
tables_again enums (Some d) ts h = rw (h.1, list_again enums h.0 ts h.2, le-leb (length ts) 100 h.3, h.4) refl

-- ---- what is spelled is valid

row_is_typed : (enums : List Listed) (from to : FactType) (d : Data) (row : Row) → SpellsRow enums from to d row → IsValueOf enums to row.value
row_is_typed enums from to d row h = of_type enums to h.value_text row.value (value_again_spelled enums to h.value_text row.value h.read_value)

rows_are_typed : (enums : List Listed) (from to : FactType) (ds : Items) (rows : List Row) → AreSpelled (SpellsRow enums from to) ds rows → All (IsValueOf enums to) (map (λ (row : Row). row.value) rows)
rows_are_typed enums from to no_items [] h = All-nil (IsValueOf enums to)
rows_are_typed enums from to (item d ds) (row ∷ rows) h =
    All-cons (IsValueOf enums to) row.value (map (λ (row : Row). row.value) rows) (row_is_typed enums from to d row h.0) (rows_are_typed enums from to ds rows h.1)
rows_are_typed enums from to ds rows h = absurd h

abbrev IsTyped : List Listed → LookupTable → Type 0
IsTyped enums t = All (IsValueOf enums t.to) (table_values t)

table_is_typed : (enums : List Listed) (d : Data) (t : LookupTable) → SpellsTable enums d t → IsTyped enums t
table_is_typed enums d t h =
    All-cons (IsValueOf enums t.to) t.below (map (λ (row : Row). row.value) t.rows) (of_type enums t.to h.below_text t.below (value_again_spelled enums t.to h.below_text t.below h.read_below))
    (rows_are_typed enums t.from t.to h.row_items t.rows h.each_row)

tables_are_typed : (enums : List Listed) (ds : Items) (ts : List LookupTable) → AreSpelled (SpellsTable enums) ds ts → All (IsTyped enums) ts
tables_are_typed enums no_items [] h = All-nil (IsTyped enums)
tables_are_typed enums (item d ds) (t ∷ ts) h = All-cons (IsTyped enums) t ts (table_is_typed enums d t h.0) (tables_are_typed enums ds ts h.1)
tables_are_typed enums ds ts h = absurd h

pub tables_are_valid : (enums : List Listed) (o : Option Data) (ts : List LookupTable) → SpellTables enums o ts → AreTables enums ts
tables_are_valid enums None ts h = subst (AreTables enums) (sym h) (record { few = omega arith; distinct = refl; typed = All-nil (IsTyped enums) })
tables_are_valid enums (Some d) ts h = record { few = h.3; distinct = h.4; typed = tables_are_typed enums h.0 ts h.2 }
