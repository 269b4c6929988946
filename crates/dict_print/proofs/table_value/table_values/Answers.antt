use Rattle.std.proofs.Common.{refl, ap, subst, ◌∙◌}
use Rattle.std.specs.List.{All}
use Rattle.std.proofs.lemmas.List.{take_all}
use Rattle.std.proofs.lemmas.List.Elements.{All-more}
use Rattle.serde_json.specs.Data.{array}
use Rattle.serde_json.specs.View.{view as json, items_view}
use Rattle.serde_json.proofs.Views.{view-Array}
use Rattle.fact_json.specs.FactJson.{items_from}
use Rattle.dict_print.specs.DictionaryJson.{IsSound, table_json}
use Rattle.dict_print.proofs.JoiningLaws.{next, at_end}
use Rattle.dict_print.proofs.table_value.table_values.Goals as goal

pub loop-table-preserved : goal.loop-table-preserved
loop-table-preserved c =
    let spelled = table_json c.args.enums.now in
    record {
      values =
          next spelled (items_from spelled) (λ t ts. refl) c.args.tables.now c.loop-table.table-index c.table-item.result c.loop-table-test.true c.table-item.is
          (json c.in_ok-value.value) c.in_ok-value.ensures.value (items_view c.loop-table.items.items) (items_view c.push_value.new.items.items) (items_from spelled c.args.tables.now)
          c.in_ok-push_value.ensures c.loop-table.invariant.values;
      sound =
          All-more IsSound c.args.tables.now c.loop-table.table-index c.table-item.result c.loop-table-test.true c.loop-table.invariant.sound
          (subst IsSound c.table-item.is c.in_ok-value.ensures.sound);
    }

pub returns : goal.returns
returns c =
    let spelled = table_json c.args.enums.now in
    record {
      value =
          view-Array c.loop-table.items
          ∙ ap array (at_end (items_from spelled) refl c.args.tables.now c.loop-table.table-index c.loop-table-test.false (items_view c.loop-table.items.items) (items_from spelled c.args.tables.now) c.loop-table.invariant.values);
      sound = subst (All IsSound) (take_all c.loop-table.table-index c.args.tables.now c.loop-table-test.false) c.loop-table.invariant.sound;
    }
