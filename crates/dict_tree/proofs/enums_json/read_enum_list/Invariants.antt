use Rattle.std.proofs.Common.{◌≡◌, ◌++◌, drop, map, option_map}
use Rattle.serde_json.specs.View.{items_view}
use Rattle.dict_tree.specs.DictParsing.{enum_list, listed_view}
use Rattle.dict_tree.proofs.enums_json.read_enum_list.Given as goal

-- those so far and those of what is left are all
abbrev pub invariant-loop-item : goal.invariant-loop-item
invariant-loop-item l = option_map (λ es. map listed_view l.enums.items ++ es) (enum_list (items_view (drop l.item-index l.items))) ≡ enum_list (items_view l.items)
