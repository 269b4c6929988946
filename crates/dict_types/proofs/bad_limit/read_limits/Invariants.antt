-- The limits so far, and those of what is left, are all.
use Rattle.std.proofs.Common.{◌≡◌, ◌++◌, drop, map, option_map}
use Rattle.text_checks.specs.Tables.{check_names}
use Rattle.dict_source.specs.Facts.{limit_view, stated_view}
use Rattle.dict_types.specs.BadLimit.{limits_at}
use Rattle.dict_types.proofs.bad_limit.read_limits.Given as goal

abbrev pub invariant-loop-limit : goal.invariant-loop-limit
invariant-loop-limit g l = option_map (λ ls. l.out.items ++ ls) (limits_at (check_names l.checks) l.enums (stated_view l.stated) (map limit_view (drop l.limit-index l.limits))) ≡ limits_at (check_names l.checks) l.enums (stated_view l.stated) (map limit_view l.limits)
