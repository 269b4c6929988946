use Rattle.std.proofs.Common.{◌≡◌, ◌++◌, drop, map}
use Rattle.dict_source.specs.Tables.{table_names}
use Rattle.dict_tree.proofs.tables_json.names_of_tables.Given as goal

abbrev pub invariant-loop-table : goal.invariant-loop-table
invariant-loop-table l = map (λ t. t.now) l.texts.items ++ table_names (drop l.table-index l.tables) ≡ table_names l.tables
