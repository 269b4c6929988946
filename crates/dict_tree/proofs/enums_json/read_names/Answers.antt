use Rattle.std.proofs.Common.{◌∙◌, ◌∷◌, [], ◌++◌, ◌+◌, drop, ap, refl, append_assoc, option_and_then, add-one}
use Rattle.serde_json.specs.Find.{as_str}
use Rattle.serde_json.specs.View.{view as json, items_view}
use Rattle.fact_paths.specs.Parsing.{name_of}
use Rattle.dict_tree.specs.DictParsing.{name_list}
use Rattle.fact_json.proofs.ParsingLaws.{items_next, read_next}
use Rattle.dict_tree.proofs.enums_json.read_names.Goals as goal

pub loop-item-preserved : goal.loop-item-preserved
loop-item-preserved c =
    let i = c.loop-item.item-index in
    let values = c.args.items.now in
    read_next (λ d. option_and_then name_of (as_str d)) name_list (λ d ds. refl) (items_view (drop i values)) (items_view (drop (i + 1) values)) (json c.item-item.result) c.in_ok-name.name c.loop-item.names.items c.push.new.self.items _
    (items_next values i (i + 1) c.item-item.result c.loop-item-test.true c.item-item.is (add-one i)) c.loop-item.invariant c.in_ok-name.ensures
    (λ ys. ap (λ l. l ++ ys) c.in_ok-push.ensures.items ∙ append_assoc c.loop-item.names.items (c.in_ok-name.name ∷ []) ys)
