use Rattle.std.proofs.Common.{◌∙◌, ◌++◌, ◌+◌, map, drop, ap, refl, add-one}
use Rattle.serde_json.specs.View.{view as json, items_view}
use Rattle.dict_tree.specs.DictParsing.{enum_list, enum_of, listed_view}
use Rattle.fact_json.proofs.ParsingLaws.{items_next, one_more, read_next}
use Rattle.dict_tree.proofs.enums_json.read_enum_list.Goals as goal

pub loop-item-preserved : goal.loop-item-preserved
loop-item-preserved c =
    let i = c.loop-item.item-index in
    let values = c.args.items.now in
    read_next enum_of enum_list (λ d ds. refl) (items_view (drop i values)) (items_view (drop (i + 1) values)) (json c.item-item.result) (listed_view c.in_ok-list.list) (map listed_view c.loop-item.enums.items) (map listed_view c.push.new.self.items) _
    (items_next values i (i + 1) c.item-item.result c.loop-item-test.true c.item-item.is (add-one i)) c.loop-item.invariant c.in_ok-list.ensures
    (λ ys. ap (λ l. map listed_view l ++ ys) c.in_ok-push.ensures.items ∙ one_more listed_view c.loop-item.enums.items c.in_ok-list.list ys)
