use Rattle.std.proofs.Common.{arith}
use Rattle.std.proofs.lemmas.Result.{err_from_is_err_and}
use Rattle.serde_json.specs.View.{view as json, items_view}
use Rattle.dict_source.specs.View.{box_view, pair_view}
use Rattle.fact_json.specs.Parsing.{tree_of, pair_tree}
use Rattle.fact_json.proofs.OperandLaws.{no_pair, pair_none, pair_none_second, pair_some, part_err}
use Rattle.fact_json.proofs.fact_json.read_two.Goals as goal

pub returns-then-items-ne2 : goal.returns-then-items-ne2
returns-then-items-ne2 c = no_pair c.args.tables.now c.args.items.now (omega arith)

pub returns-in_err-test : goal.returns-in_err-test
returns-in_err-test c =
    let p = err_from_is_err_and c.from_residual.result c.from_residual.ensures.1 in
    part_err box_view pair_view c.in_err-test.field-0.0 p.0 c.from_residual.result (tree_of c.args.tables.now (json c.index-items-0.result)) (pair_tree c.args.tables.now (items_view c.args.items.now))
    c.in_err-test.ensures (pair_none c.args.tables.now c.args.items.now c.index-items-0.result (omega arith) c.index-items-0.is) p.1 p.2

pub returns-in_err-value : goal.returns-in_err-value
returns-in_err-value c =
    let p = err_from_is_err_and c.from_residual-in_err-value.result c.from_residual-in_err-value.ensures.1 in
    part_err box_view pair_view c.in_err-value.field-0.0 p.0 c.from_residual-in_err-value.result (tree_of c.args.tables.now (json c.index-items-1.result)) (pair_tree c.args.tables.now (items_view c.args.items.now))
    c.in_err-value.ensures (pair_none_second c.args.tables.now c.args.items.now c.index-items-0.result c.index-items-1.result (box_view c.in_ok-test.test) (omega arith) c.index-items-0.is c.index-items-1.is c.in_ok-test.ensures) p.1 p.2

pub returns : goal.returns
returns c =
    pair_some c.args.tables.now c.args.items.now c.index-items-0.result c.index-items-1.result (box_view c.in_ok-test.test) (box_view c.in_ok-value.value) (omega arith) c.index-items-0.is c.index-items-1.is c.in_ok-test.ensures c.in_ok-value.ensures
