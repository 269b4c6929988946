-- A use of what is left breaks the rule just where one of all does.
use Rattle.std.proofs.Common.{◌≡◌, drop}
use Rattle.dict_source.specs.Dictionary.{dictionary_view}
use Rattle.dict_source.specs.View.{cases_view, trees_view}
use Rattle.dict_rules.specs.Uses.{cases_have_use, some_have_use}
use Rattle.dict_rules.specs.UseRules.{use_breaks}
use Rattle.dict_rules.proofs.uses.+uses.Given as goal

abbrev pub invariant-some_break-loop-operand : goal.invariant-some_break-loop-operand
invariant-some_break-loop-operand l = some_have_use (use_breaks (dictionary_view l.source) l.fact l.rule) (dictionary_view l.source) l.fact l.condition (trees_view (drop l.operand-index l.operands)) ≡ some_have_use (use_breaks (dictionary_view l.source) l.fact l.rule) (dictionary_view l.source) l.fact l.condition (trees_view l.operands)

abbrev pub invariant-cases_break-loop-case : goal.invariant-cases_break-loop-case
invariant-cases_break-loop-case l = cases_have_use (use_breaks (dictionary_view l.source) l.fact l.rule) (dictionary_view l.source) l.fact l.condition (cases_view (drop l.case-index l.cases)) ≡ cases_have_use (use_breaks (dictionary_view l.source) l.fact l.rule) (dictionary_view l.source) l.fact l.condition (cases_view l.cases)
