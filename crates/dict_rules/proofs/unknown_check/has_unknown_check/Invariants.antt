-- A limit of what is left names no check just where one of all does.
use Rattle.std.proofs.Common.{◌≡◌, drop, map}
use Rattle.std.specs.List.{list_any}
use Rattle.text_checks.specs.Tables.{check_names}
use Rattle.dict_source.specs.Facts.{limit_view}
use Rattle.dict_rules.specs.UnknownCheck.{is_unknown_check}
use Rattle.dict_rules.proofs.unknown_check.has_unknown_check.Given as goal

abbrev pub invariant-loop-limit : goal.invariant-loop-limit
invariant-loop-limit g l = list_any (is_unknown_check (check_names l.checks)) (map limit_view (drop l.limit-index l.limit-items)) ≡ list_any (is_unknown_check (check_names l.checks)) (map limit_view l.limit-items)
