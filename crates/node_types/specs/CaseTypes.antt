-- The type of a Switch, from the types of its cases, and of a node that picks members.
use Rattle.std.specs.Prelude.{ℕ, Bool, ◌&&◌, List, [], ◌∷◌, Option, Some, None, option_map, if◌then◌else◌}
use Rattle.std.specs.List.{list_all}
use Rattle.fact_values.specs.declared.fact_type.FactType.{FactType}
use Rattle.fact_values.specs.declared.fact_type.FactType.TheVariants.{Boolean}
use Rattle.dict_source.specs.declared.operators.PickOp.{PickOp}
use Rattle.dict_source.specs.OperandTypes.{pick_type, same_type}
use Rattle.node_types.specs.declared.operand_types.CaseType.{CaseType}

-- the test is Boolean, and the outcome of the type
abbrev pub fits : FactType → CaseType → Bool
fits t c = same_type c.test Boolean && same_type t c.outcome

abbrev pub switch_type : List CaseType → Option FactType
switch_type [] = None
switch_type (c ∷ cs) = if list_all (fits c.outcome) (c ∷ cs) then Some c.outcome else None

-- from the collection's base, where it is known, and from the condition's type
abbrev pub picked_type : PickOp → Option ℕ → FactType → Option FactType
picked_type op base t = if same_type t Boolean then option_map (pick_type op) base else None
