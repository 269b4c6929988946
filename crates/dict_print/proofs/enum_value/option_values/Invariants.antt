use Rattle.std.proofs.Common.{◌≡◌, drop}
use Rattle.serde_json.specs.Data.{string}
use Rattle.serde_json.specs.View.{items_view}
use Rattle.fact_json.specs.FactJson.{items_from}
use Rattle.dict_print.specs.Joining.{joined}
use Rattle.dict_print.proofs.enum_value.option_values.Given as goal

-- the values so far and those of what is left are all
abbrev pub invariant-loop-option : goal.invariant-loop-option
invariant-loop-option l = joined (items_view l.items.items) (items_from string (drop l.option-index l.options)) ≡ items_from string l.options
