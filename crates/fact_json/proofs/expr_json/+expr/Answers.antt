use Rattle.std.proofs.Common.{Some, sym, arith, ◌∙◌, ◌++◌, ◌+◌, drop, map, option_map, option_and_then, ap, refl, add-one}
use Rattle.std.proofs.lemmas.Result.{err_from_is_err_and}
use Rattle.serde_json.specs.View.{view as json, items_view}
use Rattle.dict_source.specs.View.{box_view, case_view, looked_view, pair_view, picked_view, use_view, view}
use Rattle.fact_json.specs.Parsing.{looked_of, picked_of, tree_of, only_tree, pair_tree, picked_tree, tree_list, case_of, case_list}
use Rattle.fact_json.proofs.OperandLaws.{looked_found, looked_none, only_tree_else, pair_tree_else, picked_tree_else, only_tree_at, pair_tree_none, pair_tree_none_second, pair_tree_some, picked_none, picked_some, part_err, part_gives}
use Rattle.fact_json.proofs.ParsingLaws.{items_next, one_more, read_next}
use Rattle.fact_json.proofs.expr_json.+expr.Goals as goal

pub read_only-returns-then-items-ne2 : goal.read_only-returns-then-items-ne2
read_only-returns-then-items-ne2 t c = only_tree_else c.args.tables.now c.args.items.now c.requires (omega arith)

pub read_only-returns : goal.read_only-returns
read_only-returns t c =
    part_gives box_view c.read_boxed.result (tree_of c.args.tables.now (json c.index-items-1.result)) (only_tree c.args.tables.now (items_view (drop 1 c.args.items.now)))
    (only_tree_at c.args.tables.now c.args.items.now c.index-items-1.result (omega arith) c.index-items-1.is) c.read_boxed.ensures

pub read_pair-returns-then-items-ne3 : goal.read_pair-returns-then-items-ne3
read_pair-returns-then-items-ne3 t c = pair_tree_else c.args.tables.now c.args.items.now c.requires (omega arith)

pub read_pair-returns-in_err-left : goal.read_pair-returns-in_err-left
read_pair-returns-in_err-left t c =
    let p = err_from_is_err_and c.from_residual.result c.from_residual.ensures.1 in
    part_err box_view pair_view c.in_err-left.field-0.0 p.0 c.from_residual.result (tree_of c.args.tables.now (json c.index-items-1.result)) (pair_tree c.args.tables.now (items_view (drop 1 c.args.items.now)))
    c.in_err-left.ensures (pair_tree_none c.args.tables.now c.args.items.now c.index-items-1.result (omega arith) c.index-items-1.is) p.1 p.2

pub read_pair-returns-in_err-right : goal.read_pair-returns-in_err-right
read_pair-returns-in_err-right t c =
    let p = err_from_is_err_and c.from_residual-in_err-right.result c.from_residual-in_err-right.ensures.1 in
    part_err box_view pair_view c.in_err-right.field-0.0 p.0 c.from_residual-in_err-right.result (tree_of c.args.tables.now (json c.index-items-2.result)) (pair_tree c.args.tables.now (items_view (drop 1 c.args.items.now)))
    c.in_err-right.ensures (pair_tree_none_second c.args.tables.now c.args.items.now c.index-items-1.result c.index-items-2.result (box_view c.in_ok-left.left) (omega arith) c.index-items-1.is c.index-items-2.is c.in_ok-left.ensures) p.1 p.2

pub read_pair-returns : goal.read_pair-returns
read_pair-returns t c =
    pair_tree_some c.args.tables.now c.args.items.now c.index-items-1.result c.index-items-2.result (box_view c.in_ok-left.left) (box_view c.in_ok-right.right) (omega arith) c.index-items-1.is c.index-items-2.is c.in_ok-left.ensures c.in_ok-right.ensures

pub read_picked-returns-then-items-ne3 : goal.read_picked-returns-then-items-ne3
read_picked-returns-then-items-ne3 t c = ap (option_map picked_of) (picked_tree_else c.args.tables.now c.args.items.now c.requires (omega arith))

pub read_picked-returns-in_err-condition : goal.read_picked-returns-in_err-condition
read_picked-returns-in_err-condition t c =
    let p = err_from_is_err_and c.from_residual.result c.from_residual.ensures.1 in
    part_err box_view picked_view c.in_err-condition.field-0.0 p.0 c.from_residual.result (tree_of c.args.tables.now (json c.index-items-2.result)) (option_map picked_of (picked_tree c.args.tables.now (items_view (drop 1 c.args.items.now))))
    c.in_err-condition.ensures (picked_none c.args.tables.now c.args.items.now c.index-items-1.result c.index-items-2.result (omega arith) c.index-items-1.is c.index-items-2.is) p.1 p.2

pub read_picked-returns : goal.read_picked-returns
read_picked-returns t c =
    picked_some c.args.tables.now c.args.items.now c.index-items-1.result c.index-items-2.result c.in-Some.text.now (box_view c.in_ok-condition.condition) (use_view c.in_ok-path.path) (omega arith) c.index-items-1.is c.index-items-2.is
    c.in-Some.ensures c.in_ok-condition.ensures c.in_ok-path.ensures

pub read_looked-returns-then-items-ne3 : goal.read_looked-returns-then-items-ne3
read_looked-returns-then-items-ne3 t c = ap (option_and_then (looked_of c.args.tables.now)) (picked_tree_else c.args.tables.now c.args.items.now c.requires (omega arith))

pub read_looked-returns-in_err-operand : goal.read_looked-returns-in_err-operand
read_looked-returns-in_err-operand t c =
    let p = err_from_is_err_and c.from_residual.result c.from_residual.ensures.1 in
    part_err box_view looked_view c.in_err-operand.field-0.0 p.0 c.from_residual.result (tree_of c.args.tables.now (json c.index-items-2.result)) (option_and_then (looked_of c.args.tables.now) (picked_tree c.args.tables.now (items_view (drop 1 c.args.items.now))))
    c.in_err-operand.ensures (looked_none c.args.tables.now c.args.items.now c.index-items-1.result c.index-items-2.result (omega arith) c.index-items-1.is c.index-items-2.is) p.1 p.2

pub read_looked-returns-in-Ok : goal.read_looked-returns-in-Ok
read_looked-returns-in-Ok t c =
    looked_found c.args.tables.now c.args.items.now c.index-items-1.result c.index-items-2.result c.in-Some.text.now (box_view c.in_ok-operand.operand) (Some c.in-Ok.table) (omega arith) c.index-items-1.is c.index-items-2.is
    c.in-Some.ensures c.in_ok-operand.ensures (sym c.in-Some-find_table.ensures ∙ ap (λ t. Some t) (sym c.in-Ok.ensures))

pub read_list-loop-i-preserved : goal.read_list-loop-i-preserved
read_list-loop-i-preserved t c =
    let i = c.loop-i.i in
    let values = c.args.items.now in
    read_next (tree_of c.args.tables.now) (tree_list c.args.tables.now) (λ d ds. refl) (items_view (drop i values)) (items_view (drop (i + 1) values)) (json c.index-items-i.result) (view c.in_ok-expr.expr) (map view c.loop-i.list.items) (map view c.push.new.self.items) _
    (items_next values i (i + 1) c.index-items-i.result (omega arith) c.index-items-i.is (add-one i)) c.loop-i.invariant c.in_ok-expr.ensures
    (λ ys. ap (λ l. map view l ++ ys) c.in_ok-push.ensures.items ∙ one_more view c.loop-i.list.items c.in_ok-expr.expr ys)

pub read_cases-loop-i-preserved : goal.read_cases-loop-i-preserved
read_cases-loop-i-preserved t c =
    let i = c.loop-i.i in
    let values = c.args.items.now in
    read_next (case_of c.args.tables.now) (case_list c.args.tables.now) (λ d ds. refl) (items_view (drop i values)) (items_view (drop (i + 1) values)) (json c.index-items-i.result) (case_view c.in_ok-case.case) (map case_view c.loop-i.cases.items) (map case_view c.push.new.self.items) _
    (items_next values i (i + 1) c.index-items-i.result (omega arith) c.index-items-i.is (add-one i)) c.loop-i.invariant c.in_ok-case.ensures
    (λ ys. ap (λ l. map case_view l ++ ys) c.in_ok-push.ensures.items ∙ one_more case_view c.loop-i.cases.items c.in_ok-case.case ys)
