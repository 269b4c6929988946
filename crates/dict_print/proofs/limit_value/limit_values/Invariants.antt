use Rattle.std.proofs.Common.{◌≡◌, drop, map}
use Rattle.serde_json.specs.View.{items_view}
use Rattle.dict_source.specs.Facts.{limit_view}
use Rattle.fact_json.specs.FactJson.{items_from, limit_json}
use Rattle.dict_print.specs.Joining.{joined}
use Rattle.dict_print.proofs.limit_value.limit_values.Given as goal

-- the values so far and those of what is left are all
abbrev pub invariant-loop-limit : goal.invariant-loop-limit
invariant-loop-limit l =
    joined (items_view l.items.items) (items_from limit_json (map limit_view (drop l.limit-index l.limits))) ≡ items_from limit_json (map limit_view l.limits)
