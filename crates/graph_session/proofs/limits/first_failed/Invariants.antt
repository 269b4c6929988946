use Rattle.std.proofs.Common.{◌≡◌, ◌+◌, drop}
use Rattle.text_checks.specs.Tables.{named_checks}
use Rattle.dict_source.specs.Dictionary.{number_from}
use Rattle.graph_session.specs.Judging.{fails}
use Rattle.graph_session.proofs.limits.first_failed.Given as goal

-- the check of none of those before i says no
abbrev pub invariant-loop-i : goal.invariant-loop-i
invariant-loop-i g l =
    let table = named_checks l.checks in
    number_from (fails table l.value) (l.i + 1) (drop l.i l.limits) ≡ number_from (fails table l.value) 1 l.limits
