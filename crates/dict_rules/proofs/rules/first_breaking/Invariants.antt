-- The first of what is left that breaks the rule is the first of all.
use Rattle.std.proofs.Common.{◌≡◌, ◌+◌, drop, map}
use Rattle.text_checks.specs.Tables.{check_names}
use Rattle.dict_source.specs.Dictionary.{dictionary_view}
use Rattle.dict_source.specs.Facts.{fact_view}
use Rattle.dict_rules.specs.FirstFact.{first_passing}
use Rattle.dict_rules.specs.Rules.{breaks}
use Rattle.dict_rules.proofs.rules.first_breaking.Given as goal

abbrev pub invariant-loop-i : goal.invariant-loop-i
invariant-loop-i g l = first_passing (breaks (dictionary_view l.source) (check_names l.checks) l.rule) (l.i + 1) (map fact_view (drop l.i l.facts)) ≡ first_passing (breaks (dictionary_view l.source) (check_names l.checks) l.rule) 1 (map fact_view l.facts)
