use Rattle.std.proofs.Common.{◌≡◌, drop}
use Rattle.std.specs.Prelude.{codes}
use Rattle.serde_json.specs.Data.{item, string}
use Rattle.serde_json.specs.View.{items_view}
use Rattle.dict_source.specs.View.{trees_view, cases_view}
use Rattle.fact_json.specs.Json.{json_of_trees, json_of_cases}
use Rattle.dict_print.specs.Joining.{joined}
use Rattle.dict_print.proofs.expr_value.+expr.Given as goal

-- the values so far and those of what is left are all
abbrev pub invariant-many_value-loop-operand : goal.invariant-many_value-loop-operand
invariant-many_value-loop-operand l =
    joined (items_view l.items.items) (json_of_trees (trees_view (drop l.operand-index l.operands))) ≡ item (string l.name) (json_of_trees (trees_view l.operands))

abbrev pub invariant-switch_value-loop-case : goal.invariant-switch_value-loop-case
invariant-switch_value-loop-case l =
    joined (items_view l.items.items) (json_of_cases (cases_view (drop l.case-index l.cases))) ≡ item (string (codes "Switch")) (json_of_cases (cases_view l.cases))
