use Rattle.std.proofs.Common.{◌≡◌, drop, take}
use Rattle.std.specs.List.{All}
use Rattle.serde_json.specs.View.{items_view}
use Rattle.fact_json.specs.FactJson.{items_from}
use Rattle.dict_print.specs.DictionaryJson.{IsSound, table_json}
use Rattle.dict_print.specs.Joining.{joined}
use Rattle.dict_print.proofs.table_value.table_values.Given as goal

-- the values so far and those of what is left are all, and the tables so far are sound
abbrev pub invariant-loop-table : goal.invariant-loop-table
invariant-loop-table l = record {
  values : joined (items_view l.items.items) (items_from (table_json l.enums) (drop l.table-index l.tables)) ≡ items_from (table_json l.enums) l.tables;
  sound : All IsSound (take l.table-index l.tables);
}
