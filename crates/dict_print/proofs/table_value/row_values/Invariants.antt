use Rattle.std.proofs.Common.{◌≡◌, drop}
use Rattle.serde_json.specs.View.{items_view}
use Rattle.fact_json.specs.FactJson.{items_from}
use Rattle.dict_print.specs.DictionaryJson.{row_json}
use Rattle.dict_print.specs.Joining.{joined}
use Rattle.dict_print.proofs.table_value.row_values.Given as goal

-- the values so far and those of what is left are all
abbrev pub invariant-loop-row : goal.invariant-loop-row
invariant-loop-row l = joined (items_view l.items.items) (items_from (row_json l.enums l.from) (drop l.row-index l.rows)) ≡ items_from (row_json l.enums l.from) l.rows
