-- A limit of what is left is a check just where one of all is.
use Rattle.std.proofs.Common.{◌≡◌, drop, map}
use Rattle.std.specs.List.{list_any}
use Rattle.dict_source.specs.Facts.{limit_view}
use Rattle.dictionary.specs.Checks.{is_check}
use Rattle.dictionary.proofs.kept_check.fact_names_check.Given as goal

abbrev pub invariant-loop-limit : goal.invariant-loop-limit
invariant-loop-limit l = list_any is_check (map limit_view (drop l.limit-index l.limit-items)) ≡ list_any is_check (map limit_view l.limit-items)
