use Rattle.std.proofs.Common.{◌+◌, drop, map, add-one}
use Rattle.text_checks.specs.Tables.{check_names}
use Rattle.dict_source.specs.Facts.{limit_view, stated_view}
use Rattle.dict_types.proofs.LimitLaws.{limit_next}
use Rattle.node_types.proofs.OneByOneLaws.{left_next}
use Rattle.dict_types.proofs.bad_limit.read_limits.Goals as goal

pub loop-limit-preserved : goal.loop-limit-preserved
loop-limit-preserved g c =
    let i = c.loop-limit.limit-index in
    let limits = c.args.limits.now in
    let here = limit_view c.limit-item.result in
    let left = left_next limit_view limits i (i + 1) c.limit-item.result c.loop-limit-test.true c.limit-item.is (add-one i) in
    limit_next (check_names c.args.checks.now) c.args.enums.now (stated_view c.args.stated.now) (map limit_view (drop i limits)) (map limit_view (drop (i + 1) limits)) here c.in_ok-found.found c.loop-limit.out.items c.push.new.self.items _ left c.loop-limit.invariant c.in_ok-found.ensures c.in_ok-push.ensures.items
