use Rattle.dict_rules.proofs.FirstLaws.{first_is_least, none_is_found}
use Rattle.dict_rules.proofs.rule_laws.the_first_is_least.Goals as goal

pub returns-clause-least : goal.returns-clause-least
returns-clause-least c = first_is_least

pub returns-clause-none : goal.returns-clause-none
returns-clause-none c = none_is_found
