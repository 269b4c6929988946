-- The first fault by the rules that are left is the first by all.
use Rattle.std.proofs.Common.{◌≡◌, drop}
use Rattle.text_checks.specs.Tables.{check_names}
use Rattle.dict_source.specs.Dictionary.{dictionary_view}
use Rattle.dict_rules.specs.Rules.{first_fault}
use Rattle.dict_rules.proofs.rules.first_fault.Given as goal

abbrev pub invariant-loop-rule : goal.invariant-loop-rule
invariant-loop-rule g l = first_fault (dictionary_view l.source) (check_names l.checks) (drop l.rule-index l.rules) ≡ first_fault (dictionary_view l.source) (check_names l.checks) l.rules
