-- A Dependency through an item in two steps: the item, and the field of the member that it is.
use Rattle.std.specs.Prelude.{ℕ, Bool, true, false}
use Rattle.fact_values.specs.declared.value.Value.{Value}
use Rattle.fact_values.specs.declared.value.Value.TheVariants.{Item}
use Rattle.three_state.specs.Folds.{down_unless}
use Rattle.three_state.specs.declared.res.Res.{Res}
use Rattle.three_state.specs.declared.res.Res.TheVariants.{Complete, Placeholder, Incomplete, Fault}
use Rattle.operations.specs.declared.reads.ItemStep.{ItemStep}
use Rattle.operations.specs.declared.reads.ItemStep.TheVariants.{Member, End}

abbrev pub value_step : Bool → Value → ItemStep
value_step complete (Item m) = Member m complete
value_step complete _ = End Incomplete

unfoldable pub item_step : Res → ItemStep
item_step (Complete v) = value_step true v
item_step (Placeholder v) = value_step false v
item_step Incomplete = End Incomplete
item_step (Fault fault) = End (Fault fault)

-- the result, from the field of each member
abbrev pub after_item : ItemStep → (ℕ → Res) → Res
after_item (Member m complete) field = down_unless complete (field m)
after_item (End r) field = r
