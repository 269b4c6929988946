use Rattle.std.proofs.Common.{◌≡◌, ◌++◌, drop, map, option_map}
use Rattle.serde_json.specs.View.{items_view}
use Rattle.dict_source.specs.Facts.{limit_view}
use Rattle.fact_json.specs.FactParsing.{limit_list}
use Rattle.fact_json.proofs.limits_json.read_limit_list.Given as goal

-- those so far and those of what is left are all
abbrev pub invariant-loop-item : goal.invariant-loop-item
invariant-loop-item l = option_map (λ ls. map limit_view l.limits.items ++ ls) (limit_list (items_view (drop l.item-index l.items))) ≡ limit_list (items_view l.items)
