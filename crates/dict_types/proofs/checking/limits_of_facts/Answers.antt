use Rattle.std.proofs.Common.{◌+◌, drop, map, refl, add-one}
use Rattle.text_checks.specs.Tables.{check_names}
use Rattle.dict_source.specs.Dictionary.{dictionary_view}
use Rattle.dict_source.specs.Facts.{fact_view}
use Rattle.dict_types.specs.BadLimit.{fact_limits}
use Rattle.dict_types.specs.Typed.{limits_of, or_bad_limit}
use Rattle.node_types.proofs.OneByOneLaws.{all_next, left_next}
use Rattle.dict_types.proofs.checking.limits_of_facts.Goals as goal

pub loop-i-preserved : goal.loop-i-preserved
loop-i-preserved g c =
    let d = dictionary_view c.args.source.now in
    let names = check_names c.args.checks.now in
    let i = c.loop-i.i in
    let facts = c.facts-facts.result.now in
    all_next (λ n f. or_bad_limit n (fact_limits names d.enums f)) (limits_of names d) (λ n f fs. refl) (i + 1) (i + 1 + 1) (map fact_view (drop i facts)) (map fact_view (drop (i + 1) facts)) (fact_view c.index-facts-i.result) c.in_ok-limits.limits c.loop-i.out.items c.push.new.self.items _
    (left_next fact_view facts i (i + 1) c.index-facts-i.result c.loop-i-test.true c.index-facts-i.is (add-one i)) (add-one (i + 1)) c.loop-i.invariant c.in_ok-limits.ensures c.in_ok-push.ensures.items
