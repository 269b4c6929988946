use Rattle.std.proofs.Common.{◌+◌, drop, map, refl, add-one}
use Rattle.dict_source.specs.Dictionary.{dictionary_view}
use Rattle.dict_source.specs.Facts.{fact_view}
use Rattle.dict_types.specs.Typed.{typed_fact, typed_facts}
use Rattle.node_types.proofs.OneByOneLaws.{all_next, left_next}
use Rattle.dict_types.proofs.SizeLaws.{size_within}
use Rattle.dict_types.proofs.checking.type_facts.Goals as goal

pub type_and_constants-requires : goal.type_and_constants-requires
type_and_constants-requires c =
    size_within c.args.source.now c.facts-facts.result.now c.loop-i.i c.index-facts-i.result c.facts-facts.ensures.valid c.facts-facts.ensures.value c.loop-i-test.true c.index-facts-i.is

pub loop-i-preserved : goal.loop-i-preserved
loop-i-preserved c =
    let d = dictionary_view c.args.source.now in
    let i = c.loop-i.i in
    let facts = c.facts-facts.result.now in
    all_next (typed_fact d) (typed_facts d) (λ n f fs. refl) (i + 1) (i + 1 + 1) (map fact_view (drop i facts)) (map fact_view (drop (i + 1) facts)) (fact_view c.index-facts-i.result) c.in_ok-typed.typed c.loop-i.out.items c.push.new.self.items _
    (left_next fact_view facts i (i + 1) c.index-facts-i.result c.loop-i-test.true c.index-facts-i.is (add-one i)) (add-one (i + 1)) c.loop-i.invariant c.in_ok-typed.ensures c.in_ok-push.ensures.items
