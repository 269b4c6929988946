-- A limit stands twice in what is left just where one does in all.
use Rattle.std.proofs.Common.{◌≡◌, drop, map}
use Rattle.dict_source.specs.Facts.{limit_view}
use Rattle.dict_types.specs.BadLimit.{has_twice}
use Rattle.dict_types.proofs.bad_limit.has_twice.Given as goal

abbrev pub invariant-loop-i : goal.invariant-loop-i
invariant-loop-i l = has_twice (map limit_view (drop l.i l.limits)) ≡ has_twice (map limit_view l.limits)
