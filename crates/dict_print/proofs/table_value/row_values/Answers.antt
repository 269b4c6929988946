use Rattle.std.proofs.Common.{refl, ap, ◌∙◌}
use Rattle.serde_json.specs.Data.{array}
use Rattle.serde_json.specs.View.{view as json, items_view}
use Rattle.serde_json.proofs.Views.{view-Array}
use Rattle.fact_json.specs.FactJson.{items_from}
use Rattle.dict_print.specs.DictionaryJson.{row_json}
use Rattle.dict_print.proofs.JoiningLaws.{next, at_end}
use Rattle.dict_print.proofs.table_value.row_values.Goals as goal

pub loop-row-preserved : goal.loop-row-preserved
loop-row-preserved c =
    let spelled = row_json c.args.enums.now c.args.from in
    next spelled (items_from spelled) (λ r rs. refl) c.args.rows.now c.loop-row.row-index c.row-item.result c.loop-row-test.true c.row-item.is
    (json c.in_ok-value.value) c.in_ok-value.ensures (items_view c.loop-row.items.items) (items_view c.push_value.new.items.items) (items_from spelled c.args.rows.now)
    c.in_ok-push_value.ensures c.loop-row.invariant

pub returns : goal.returns
returns c =
    let spelled = row_json c.args.enums.now c.args.from in
    view-Array c.loop-row.items
    ∙ ap array (at_end (items_from spelled) refl c.args.rows.now c.loop-row.row-index c.loop-row-test.false (items_view c.loop-row.items.items) (items_from spelled c.args.rows.now) c.loop-row.invariant)
