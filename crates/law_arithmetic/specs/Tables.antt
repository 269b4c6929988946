-- Tables of rows with rising keys.
use Rattle.std.specs.Prelude.{ℤ, pos, Bool, true, IsTrue, not, ◌&&◌, List, [], ◌∷◌, length, nat_le, int_lt, Option, None}
use Rattle.std.specs.List.{filter, last_or}
use Rattle.std.specs.Option.{option_map}
use Rattle.fact_values.specs.declared.value.Value.{Value}
use Rattle.fact_values.specs.declared.value.Value.TheVariants.{Int, Dollar, Day}
use Rattle.law_arithmetic.specs.declared.table.Row.{Row}

-- the key that a whole number, an amount or a day is; no other value is looked up
abbrev pub key_of : Value → ℤ
key_of (Int n) = n
key_of (Dollar cents) = cents
key_of (Day n) = n
key_of _ = pos 0

-- each key is less than the next
abbrev pub are_rising : List Row → Bool
are_rising [] = true
are_rising (row ∷ []) = true
are_rising (row ∷ next ∷ rest) = int_lt row.key next.key && are_rising (next ∷ rest)

-- at most 1,000 rows, with rising keys
abbrev pub is_table : List Row → Bool
is_table rows = nat_le (length rows) 1000 && are_rising rows

abbrev pub IsTable : List Row → Type 0
IsTable rows = IsTrue (is_table rows)

-- the row's key is at most n
abbrev pub has_begun : ℤ → Row → Bool
has_begun n row = not (int_lt n row.key)

-- the last row whose key is at most n
abbrev pub last_begun : List Row → ℤ → Option Row
last_begun rows n = last_or None (filter (has_begun n) rows)

-- its value, and none where n is below each key
abbrev pub looked_up : List Row → ℤ → Option Value
looked_up rows n = option_map (λ row. row.value) (last_begun rows n)
