use Rattle.std.proofs.Common.{refl, ap, ◌∙◌}
use Rattle.serde_json.specs.Data.{array, string}
use Rattle.serde_json.specs.View.{view as json, items_view}
use Rattle.serde_json.proofs.Views.{view-Array}
use Rattle.fact_json.specs.FactJson.{items_from}
use Rattle.dict_print.proofs.JoiningLaws.{next, at_end}
use Rattle.dict_print.proofs.enum_value.option_values.Goals as goal

pub loop-option-preserved : goal.loop-option-preserved
loop-option-preserved c =
    next string (items_from string) (λ o os. refl) c.args.options.now c.loop-option.option-index c.option-item.result c.loop-option-test.true c.option-item.is
    (json c.in_ok-value.value) (c.in_ok-value.ensures ∙ ap string c.as_str.ensures.text) (items_view c.loop-option.items.items) (items_view c.push_value.new.items.items) (items_from string c.args.options.now)
    c.in_ok-push_value.ensures c.loop-option.invariant

pub returns : goal.returns
returns c =
    view-Array c.loop-option.items
    ∙ ap array (at_end (items_from string) refl c.args.options.now c.loop-option.option-index c.loop-option-test.false (items_view c.loop-option.items.items) (items_from string c.args.options.now) c.loop-option.invariant)
