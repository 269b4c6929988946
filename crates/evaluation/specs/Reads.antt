-- What a node that reads makes of the results that it reads, in the words of every environment.
use Rattle.std.specs.Prelude.{ℕ, [], ◌∷◌}
use Rattle.fact_values.specs.declared.fact_type.FactType.{FactType}
use Rattle.fact_values.specs.declared.fact_type.FactType.TheVariants as types
use Rattle.fact_values.specs.declared.value.Value.{Value}
use Rattle.fact_values.specs.declared.value.Value.TheVariants.{Boolean, Item}
use Rattle.three_state.specs.declared.res.Res.{Res}
use Rattle.three_state.specs.declared.res.Res.TheVariants.{Complete, Incomplete}
use Rattle.three_state.specs.Results.{is_complete, strict, strict_over_fields, through}
use Rattle.evaluation.specs.Operations.{on_one, size_value, sum_of_dollars, sum_of_ints}

-- Dependency through an Item: from the item's result, and the field's result at each member
abbrev pub field_at : (ℕ → Res) → Value → Res
field_at field (Item m) = field m
field_at field _ = Incomplete

abbrev pub through_item : Res → (ℕ → Res) → Res
through_item item field = through item (field_at field)

-- IsComplete, from what a Dependency would give
abbrev pub complete_test : Res → Res
complete_test r = Complete (Boolean (is_complete r))

-- CollectionSize, from the collection
abbrev pub collection_size : Res → Res
collection_size source = strict (on_one size_value) (source ∷ [])

-- CollectionSum, from the collection and the field of each member
abbrev pub sum_over_ints : Res → (ℕ → Res) → Res
sum_over_ints source field = strict_over_fields sum_of_ints source field

abbrev pub sum_over_dollars : Res → (ℕ → Res) → Res
sum_over_dollars source field = strict_over_fields sum_of_dollars source field

-- by the type of the field
abbrev pub sum_over : FactType → Res → (ℕ → Res) → Res
sum_over types.Dollar source field = sum_over_dollars source field
sum_over _ source field = sum_over_ints source field
