use Rattle.std.proofs.Common.{◌≡◌, drop}
use Rattle.serde_json.specs.View.{items_view}
use Rattle.fact_json.specs.FactJson.{items_from}
use Rattle.dict_print.specs.DictionaryJson.{enum_json}
use Rattle.dict_print.specs.Joining.{joined}
use Rattle.dict_print.proofs.enum_value.enum_values.Given as goal

-- the values so far and those of what is left are all
abbrev pub invariant-loop-place : goal.invariant-loop-place
invariant-loop-place l = joined (items_view l.items.items) (items_from enum_json (drop l.place l.enums)) ≡ items_from enum_json l.enums
