-- The limit stands again in what is left just where it does in all.
use Rattle.std.proofs.Common.{◌≡◌, drop, map}
use Rattle.std.specs.List.{list_any}
use Rattle.dict_source.specs.Facts.{limit_view}
use Rattle.dict_types.specs.BadLimit.{is_again}
use Rattle.dict_types.proofs.bad_limit.stands_again.Given as goal

abbrev pub invariant-loop-other : goal.invariant-loop-other
invariant-loop-other l = list_any (is_again (limit_view l.limit)) (map limit_view (drop l.other-index l.later)) ≡ list_any (is_again (limit_view l.limit)) (map limit_view l.later)
