use Rattle.dict_meaning.proofs.HomeLaws.{global_has_none, home_is_collection}
use Rattle.dict_meaning.proofs.home_laws.homes_are_collections.Goals as goal

pub returns-clause-global : goal.returns-clause-global
returns-clause-global c = global_has_none

pub returns-clause-member : goal.returns-clause-member
returns-clause-member c = home_is_collection
