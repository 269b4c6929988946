use Rattle.std.proofs.Common.{refl, ap, ◌∙◌}
use Rattle.std.specs.Prelude.{codes}
use Rattle.serde_json.specs.Data.{array, item, string}
use Rattle.serde_json.specs.View.{view as json, items_view}
use Rattle.serde_json.proofs.Views.{view-Array}
use Rattle.dict_source.specs.View.{view, case_view, trees_view, cases_view}
use Rattle.fact_json.specs.Json.{json_of, json_of_trees, json_of_cases}
use Rattle.dict_print.specs.DictionaryJson.{case_json}
use Rattle.dict_print.proofs.JoiningLaws.{next, at_end}
use Rattle.dict_print.proofs.expr_value.+expr.Goals as goal

pub many_value-loop-operand-preserved : goal.many_value-loop-operand-preserved
many_value-loop-operand-preserved t c =
    next (λ e. json_of (view e)) (λ es. json_of_trees (trees_view es)) (λ e es. refl) c.args.operands.now c.loop-operand.operand-index c.operand-item.result c.loop-operand-test.true c.operand-item.is
    (json c.in_ok-value.value) c.in_ok-value.ensures (items_view c.loop-operand.items.items) (items_view c.push_value.new.items.items) (item (string c.args.name.now) (json_of_trees (trees_view c.args.operands.now)))
    c.in_ok-push_value.ensures c.loop-operand.invariant

pub many_value-returns : goal.many_value-returns
many_value-returns t c =
    view-Array c.loop-operand.items
    ∙ ap array (at_end (λ es. json_of_trees (trees_view es)) refl c.args.operands.now c.loop-operand.operand-index c.loop-operand-test.false (items_view c.loop-operand.items.items) (item (string c.args.name.now) (json_of_trees (trees_view c.args.operands.now))) c.loop-operand.invariant)

pub switch_value-loop-case-preserved : goal.switch_value-loop-case-preserved
switch_value-loop-case-preserved t c =
    next (λ k. case_json (case_view k)) (λ ks. json_of_cases (cases_view ks)) (λ k ks. refl) c.args.cases.now c.loop-case.case-index c.case-item.result c.loop-case-test.true c.case-item.is
    (json c.in_ok-value.value) c.in_ok-value.ensures (items_view c.loop-case.items.items) (items_view c.push_value.new.items.items) (item (string (codes "Switch")) (json_of_cases (cases_view c.args.cases.now)))
    c.in_ok-push_value.ensures c.loop-case.invariant

pub switch_value-returns : goal.switch_value-returns
switch_value-returns t c =
    view-Array c.loop-case.items
    ∙ ap array (at_end (λ ks. json_of_cases (cases_view ks)) refl c.args.cases.now c.loop-case.case-index c.loop-case-test.false (items_view c.loop-case.items.items) (item (string (codes "Switch")) (json_of_cases (cases_view c.args.cases.now))) c.loop-case.invariant)
