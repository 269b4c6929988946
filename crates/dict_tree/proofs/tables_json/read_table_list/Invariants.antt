use Rattle.std.proofs.Common.{◌≡◌, ◌++◌, drop, map, option_map}
use Rattle.serde_json.specs.View.{items_view}
use Rattle.dict_tree.specs.DictParsing.{listed_view}
use Rattle.dict_tree.specs.TableParsing.{table_list}
use Rattle.dict_tree.proofs.tables_json.read_table_list.Given as goal

-- those so far and those of what is left are all
abbrev pub invariant-loop-item : goal.invariant-loop-item
invariant-loop-item l =
    option_map (λ ts. l.tables.items ++ ts) (table_list (map listed_view l.enums) (items_view (drop l.item-index l.items))) ≡ table_list (map listed_view l.enums) (items_view l.items)
