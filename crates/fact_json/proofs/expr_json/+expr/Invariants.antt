use Rattle.std.proofs.Common.{◌≡◌, ◌++◌, drop, map, option_map}
use Rattle.serde_json.specs.View.{items_view}
use Rattle.dict_source.specs.View.{view, case_view}
use Rattle.fact_json.specs.Parsing.{tree_list, case_list}
use Rattle.fact_json.proofs.expr_json.+expr.Given as goal

-- those so far and those of what is left are all
abbrev pub invariant-read_list-loop-i : goal.invariant-read_list-loop-i
invariant-read_list-loop-i l =
    option_map (λ ts. map view l.list.items ++ ts) (tree_list l.tables (items_view (drop l.i l.items))) ≡ tree_list l.tables (items_view (drop 1 l.items))

abbrev pub invariant-read_cases-loop-i : goal.invariant-read_cases-loop-i
invariant-read_cases-loop-i l =
    option_map (λ cs. map case_view l.cases.items ++ cs) (case_list l.tables (items_view (drop l.i l.items))) ≡ case_list l.tables (items_view (drop 1 l.items))
