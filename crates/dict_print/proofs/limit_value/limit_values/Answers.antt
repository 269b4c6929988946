use Rattle.std.proofs.Common.{map, refl, ap, ◌∙◌}
use Rattle.serde_json.specs.Data.{array}
use Rattle.serde_json.specs.View.{view as json, items_view}
use Rattle.serde_json.proofs.Views.{view-Array}
use Rattle.dict_source.specs.Facts.{limit_view}
use Rattle.fact_json.specs.FactJson.{items_from, limit_json}
use Rattle.dict_print.proofs.JoiningLaws.{next, at_end}
use Rattle.dict_print.proofs.limit_value.limit_values.Goals as goal

pub loop-limit-preserved : goal.loop-limit-preserved
loop-limit-preserved c =
    next (λ k. limit_json (limit_view k)) (λ ks. items_from limit_json (map limit_view ks)) (λ k ks. refl) c.args.limits.now c.loop-limit.limit-index c.limit-item.result c.loop-limit-test.true c.limit-item.is
    (json c.in_ok-value.value) c.in_ok-value.ensures (items_view c.loop-limit.items.items) (items_view c.push_value.new.items.items) (items_from limit_json (map limit_view c.args.limits.now))
    c.in_ok-push_value.ensures c.loop-limit.invariant

pub returns : goal.returns
returns c =
    view-Array c.loop-limit.items
    ∙ ap array (at_end (λ ks. items_from limit_json (map limit_view ks)) refl c.args.limits.now c.loop-limit.limit-index c.loop-limit-test.false (items_view c.loop-limit.items.items) (items_from limit_json (map limit_view c.args.limits.now)) c.loop-limit.invariant)
