-- Reading the type that a fact states.
use Rattle.std.specs.Prelude.{ℕ, ◌==◌, List, [], ◌∷◌, codes, Option, Some, None, option_map, option_and_then, if◌then◌else◌, bytes_eq}
use Rattle.fact_paths.specs.Cuts.{after}
use Rattle.fact_paths.specs.Names.{is_name}
use Rattle.fact_values.specs.declared.fact_type.FactType.{FactType}
use Rattle.fact_values.specs.declared.fact_type.FactType.TheVariants as types
use Rattle.dict_source.specs.Facts.{Stated, scalar, enum_of, writable_list, list_of, item_of}
use Rattle.fact_json.specs.Names.{under_name}
use Rattle.dict_source.specs.View.{use_of}

-- what stands before the last byte, where that is `)`
abbrev pub before_close : List ℕ → Option (List ℕ)
before_close [] = None
before_close (b ∷ []) = if b == 41 then Some [] else None
before_close (b ∷ c ∷ bs) = option_map (λ rest. b ∷ rest) (before_close (c ∷ bs))

-- what stands between the front and the last `)`
abbrev pub between : List ℕ → List ℕ → Option (List ℕ)
between front text = option_and_then before_close (after front text)

abbrev pub scalar_names : List (List ℕ × FactType)
scalar_names = (codes "Boolean", types.Boolean) ∷ (codes "Int", types.Int) ∷ (codes "Dollar", types.Dollar) ∷ (codes "Rational", types.Rational) ∷ (codes "Day", types.Day) ∷ (codes "Text", types.Text) ∷ []

abbrev pub scalar_named : List ℕ → Option FactType
scalar_named text = under_name text scalar_names

-- `Enum(N)`
abbrev pub enum_named : List ℕ → Option Stated
enum_named name = if is_name name then Some (enum_of name) else None

abbrev pub enum_stated : List ℕ → Option Stated
enum_stated text = option_and_then enum_named (between (codes "Enum(") text)

-- ---- of a writable fact

abbrev pub list_stated : List ℕ → Option Stated
list_stated text = if bytes_eq text (codes "Collection") then Some writable_list else enum_stated text

abbrev pub scalar_or : Option Stated → Option FactType → Option Stated
scalar_or other (Some t) = Some (scalar t)
scalar_or other None = other

abbrev pub writable_stated : List ℕ → Option Stated
writable_stated text = scalar_or (list_stated text) (scalar_named text)

-- ---- of a derived fact

-- `Item(P)`, or an enum
abbrev pub item_or : Option Stated → Option (List ℕ) → Option Stated
item_or other (Some path) = Some (item_of (use_of path))
item_or other None = other

-- `Collection(P)`, or another
abbrev pub list_or : Option Stated → Option (List ℕ) → Option Stated
list_or other (Some path) = Some (list_of (use_of path))
list_or other None = other

abbrev pub pathed_stated : List ℕ → Option Stated
pathed_stated text = list_or (item_or (enum_stated text) (between (codes "Item(") text)) (between (codes "Collection(") text)

abbrev pub derived_stated : List ℕ → Option Stated
derived_stated text = scalar_or (pathed_stated text) (scalar_named text)
