use Rattle.std.proofs.Common.{refl, ap, ◌∙◌, arith}
use Rattle.serde_json.specs.Data.{array}
use Rattle.serde_json.specs.View.{view as json, items_view}
use Rattle.serde_json.proofs.Views.{view-Array}
use Rattle.fact_json.specs.FactJson.{items_from}
use Rattle.dict_print.specs.DictionaryJson.{enum_json}
use Rattle.dict_print.proofs.JoiningLaws.{found_at, next, at_end}
use Rattle.dict_print.proofs.enum_value.enum_values.Goals as goal

pub loop-place-preserved : goal.loop-place-preserved
loop-place-preserved c =
    let found = c.in_ok-value.ensures in
    next enum_json (items_from enum_json) (λ e es. refl) c.args.enums.now c.loop-place.place found.0 (omega arith) (found_at c.args.enums.now c.loop-place.place found.0 found.1)
    (json c.in_ok-value.value) found.2 (items_view c.loop-place.items.items) (items_view c.push_value.new.items.items) (items_from enum_json c.args.enums.now)
    c.in_ok-push_value.ensures c.loop-place.invariant

pub returns : goal.returns
returns c =
    view-Array c.loop-place.items
    ∙ ap array (at_end (items_from enum_json) refl c.args.enums.now c.loop-place.place (omega arith) (items_view c.loop-place.items.items) (items_from enum_json c.args.enums.now) c.loop-place.invariant)
