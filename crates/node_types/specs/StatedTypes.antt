-- The types that facts state.
use Rattle.std.specs.Prelude.{ℕ, List, Option, Some, option_map, option_and_then, unwrap_or}
use Rattle.fact_paths.specs.declared.fact_path.FactPath.{FactPath}
use Rattle.fact_values.specs.declared.fact_type.FactType.{FactType}
use Rattle.fact_values.specs.declared.fact_type.FactType.TheVariants.{Enum, Collection, Item}
use Rattle.value_text.specs.Enums.{list_place}
use Rattle.dict_source.specs.Facts.{Fact, Stated, scalar, enum_of, writable_list, list_of, item_of}
use Rattle.dict_source.specs.Dictionary.{Dictionary}
use Rattle.dict_source.specs.Finding.{fact_at}
use Rattle.dict_source.specs.Targets.{find_global, list_base, item_base}

-- the number of the fact `/b`: 0 where there is none
abbrev pub base_number : Dictionary → Option (List ℕ) → ℕ
base_number d base = unwrap_or (option_and_then (find_global d) base) 0

-- the type that a fact with this path states: none where an enum isn't declared
abbrev pub type_stated : Dictionary → Option FactPath → Stated → Option FactType
type_stated d path (scalar t) = Some t
type_stated d path (enum_of n) = option_map (λ list. Enum list) (list_place n d.enums)
type_stated d path writable_list = Some (Collection (base_number d (list_base path writable_list)))
type_stated d path (list_of u) = Some (Collection (base_number d (list_base path (list_of u))))
type_stated d path (item_of u) = Some (Item (base_number d (item_base (item_of u))))

abbrev pub stated_type : Dictionary → Fact → Option FactType
stated_type d f = type_stated d f.path f.stated

-- of the fact with a number, where there is one
abbrev pub type_at : Dictionary → ℕ → Option FactType
type_at d n = option_and_then (stated_type d) (fact_at d.facts n)
