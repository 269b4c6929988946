-- What a look-up gives is among the values of its table.
use Rattle.std.proofs.Common.{List, [], ◌∷◌, map, filter, Option, Some, None}
use Rattle.std.specs.Prelude.{IfSome, unwrap_or}
use Rattle.std.specs.List.{All, last_or}
use Rattle.std.specs.Option.{option_map}
use Rattle.std.proofs.lemmas.List.Elements.{All-cons, All-filter, All-head, All-nil, All-tail}
use Rattle.fact_values.specs.declared.value.Value.{Value}
use Rattle.law_arithmetic.specs.declared.table.Row.{Row}
use Rattle.law_arithmetic.specs.Tables.{has_begun, key_of, last_begun}
use Rattle.dict_source.specs.Tables.{LookupTable, table_values, value_for}

of_rows : (P : Value → Type 0) (rows : List Row) → All P (map (λ row. row.value) rows) → All (λ row. P row.value) rows
of_rows P [] h = All-nil (λ (row : Row). P row.value)
of_rows P (row ∷ rows) h =
    All-cons (λ (r : Row). P r.value) row rows (All-head P row.value (map (λ r. r.value) rows) h) (of_rows P rows (All-tail P row.value (map (λ r. r.value) rows) h))

last_has : (P : Value → Type 0) (rows : List Row) (last : Option Row) → IfSome last (λ row. P row.value) → All (λ row. P row.value) rows → IfSome (last_or last rows) (λ row. P row.value)
last_has P [] last h hs = h
last_has P (row ∷ rows) last h hs =
    last_has P rows (Some row) (All-head (λ (r : Row). P r.value) row rows hs) (All-tail (λ (r : Row). P r.value) row rows hs)

given_has : (P : Value → Type 0) (last : Option Row) (below : Value) → IfSome last (λ row. P row.value) → P below → P (unwrap_or (option_map (λ row. row.value) last) below)
given_has P (Some row) below h k = h
given_has P None below h k = k

pub value_for-among : (P : Value → Type 0) (table : LookupTable) (v : Value) → All P (table_values table) → P (value_for table v)
value_for-among P table v all =
    let n = key_of v in
    let values = map (λ (row : Row). row.value) table.rows in
    let rows = of_rows P table.rows (All-tail P table.below values all) in
    given_has P (last_begun table.rows n) table.below
    (last_has P (filter (has_begun n) table.rows) None tt (All-filter (has_begun n) (λ (row : Row). P row.value) table.rows rows))
    (All-head P table.below values all)
