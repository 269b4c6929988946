use Rattle.std.proofs.Common.{◌≡◌, ◌+◌, drop}
use Rattle.dict_source.specs.Dictionary.{number_from}
use Rattle.graph_session.specs.Judging.{breaks}
use Rattle.graph_session.proofs.limits.first_broken.Given as goal

-- none of those before i is broken
abbrev pub invariant-loop-i : goal.invariant-loop-i
invariant-loop-i l = number_from (breaks l.value) (l.i + 1) (drop l.i l.limits) ≡ number_from (breaks l.value) 1 l.limits
