-- Lists of options: how many each has, and which types take from one.
use Rattle.std.specs.Prelude.{ℕ, Bool, true, false, List, length, slice_get, option_map, unwrap_or}
use Rattle.fact_values.specs.declared.fact_type.FactType.{FactType}
use Rattle.fact_values.specs.declared.fact_type.FactType.TheVariants.{Enum}
use Rattle.value_text.specs.Enums.{Listed}

-- of the list at a place, and 0 where there is none
abbrev pub list_sizes : List Listed → ℕ → ℕ
list_sizes enums list = unwrap_or (option_map (λ (e : Listed). length e.options) (slice_get enums list)) 0

-- its values are options
abbrev pub is_enum : FactType → Bool
is_enum (Enum n) = true
is_enum _ = false
