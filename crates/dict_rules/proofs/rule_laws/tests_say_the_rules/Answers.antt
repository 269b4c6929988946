use Rattle.dict_rules.proofs.RuleLaws.{bad_path_decides, no_collection_decides, unknown_path_decides, wrong_place_decides}
use Rattle.dict_rules.proofs.rule_laws.tests_say_the_rules.Goals as goal

pub returns-clause-bad_path : goal.returns-clause-bad_path
returns-clause-bad_path c = bad_path_decides

pub returns-clause-no_collection : goal.returns-clause-no_collection
returns-clause-no_collection c = no_collection_decides

pub returns-clause-unknown_path : goal.returns-clause-unknown_path
returns-clause-unknown_path c = unknown_path_decides

pub returns-clause-wrong_place : goal.returns-clause-wrong_place
returns-clause-wrong_place c = wrong_place_decides
