use Rattle.std.proofs.Common.{◌∙◌, ◌++◌, ◌+◌, map, drop, ap, refl, add-one}
use Rattle.serde_json.specs.View.{view as json, items_view}
use Rattle.dict_source.specs.Facts.{limit_view}
use Rattle.fact_json.specs.FactParsing.{limit_list, limit_of}
use Rattle.fact_json.proofs.ParsingLaws.{items_next, one_more, read_next}
use Rattle.fact_json.proofs.limits_json.read_limit_list.Goals as goal

pub loop-item-preserved : goal.loop-item-preserved
loop-item-preserved c =
    let i = c.loop-item.item-index in
    let values = c.args.items.now in
    read_next limit_of limit_list (λ d ds. refl) (items_view (drop i values)) (items_view (drop (i + 1) values)) (json c.item-item.result) (limit_view c.in_ok-limit.limit) (map limit_view c.loop-item.limits.items) (map limit_view c.push.new.self.items) _
    (items_next values i (i + 1) c.item-item.result c.loop-item-test.true c.item-item.is (add-one i)) c.loop-item.invariant c.in_ok-limit.ensures
    (λ ys. ap (λ l. map limit_view l ++ ys) c.in_ok-push.ensures.items ∙ one_more limit_view c.loop-item.limits.items c.in_ok-limit.limit ys)
