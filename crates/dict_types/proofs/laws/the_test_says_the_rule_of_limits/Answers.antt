use Rattle.dict_types.proofs.UnfitLaws.{bad_limit_decides}
use Rattle.dict_types.proofs.laws.the_test_says_the_rule_of_limits.Goals as goal

pub returns : goal.returns
returns c = bad_limit_decides
