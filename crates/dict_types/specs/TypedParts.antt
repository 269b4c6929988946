-- What acceptance keeps of each fact: its type, its constants and its limits.
use Rattle.std.specs.Prelude.{List, Option}
use Rattle.fact_values.specs.declared.fact_type.FactType.{FactType}
use Rattle.fact_values.specs.declared.value.Value.{Value}
use Rattle.dict_types.specs.declared.limit.Limit.{Limit}

-- a fact's type, and the value of each of its nodes in preorder, where it is a constant
pub record TypedFact : Type 0 where
  pub stated : FactType
  pub constants : List (Option Value)

-- of each fact in its order, and its limits
pub record TypedDictionary : Type 0 where
  pub facts : List TypedFact
  pub limits : List (List Limit)
