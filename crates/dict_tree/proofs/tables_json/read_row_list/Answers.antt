use Rattle.std.proofs.Common.{◌∙◌, ◌∷◌, [], ◌++◌, ◌+◌, drop, map, ap, refl, append_assoc, add-one}
use Rattle.serde_json.specs.View.{view as json, items_view}
use Rattle.dict_tree.specs.DictParsing.{listed_view}
use Rattle.dict_tree.specs.TableParsing.{row_list, row_of}
use Rattle.fact_json.proofs.ParsingLaws.{items_next, read_next}
use Rattle.dict_tree.proofs.tables_json.read_row_list.Goals as goal

pub loop-item-preserved : goal.loop-item-preserved
loop-item-preserved c =
    let i = c.loop-item.item-index in
    let values = c.args.items.now in
    let lists = map listed_view c.args.enums.now in
    read_next (row_of lists c.args.from c.args.to) (row_list lists c.args.from c.args.to) (λ d ds. refl) (items_view (drop i values)) (items_view (drop (i + 1) values)) (json c.item-item.result) c.in_ok-row.row c.loop-item.rows.items c.push.new.self.items _
    (items_next values i (i + 1) c.item-item.result c.loop-item-test.true c.item-item.is (add-one i)) c.loop-item.invariant c.in_ok-row.ensures
    (λ ys. ap (λ l. l ++ ys) c.in_ok-push.ensures.items ∙ append_assoc c.loop-item.rows.items (c.in_ok-row.row ∷ []) ys)
