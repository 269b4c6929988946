-- A fact of those left has a check just where one of all has.
use Rattle.std.proofs.Common.{◌≡◌, drop, map}
use Rattle.std.specs.List.{list_any}
use Rattle.dict_source.specs.Facts.{fact_view}
use Rattle.dictionary.specs.Checks.{fact_has_check}
use Rattle.dictionary.proofs.kept_check.name_checks.Given as goal

abbrev pub invariant-loop-fact : goal.invariant-loop-fact
invariant-loop-fact l = list_any fact_has_check (map fact_view (drop l.fact-index l.facts)) ≡ list_any fact_has_check (map fact_view l.facts)
