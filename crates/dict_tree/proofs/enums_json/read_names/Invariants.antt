use Rattle.std.proofs.Common.{◌≡◌, ◌++◌, drop, option_map}
use Rattle.serde_json.specs.View.{items_view}
use Rattle.dict_tree.specs.DictParsing.{name_list}
use Rattle.dict_tree.proofs.enums_json.read_names.Given as goal

-- those so far and those of what is left are all
abbrev pub invariant-loop-item : goal.invariant-loop-item
invariant-loop-item l = option_map (λ ns. l.names.items ++ ns) (name_list (items_view (drop l.item-index l.items))) ≡ name_list (items_view l.items)
