use Rattle.dict_types.proofs.DictLaws.{fault_is_first}
use Rattle.dict_types.proofs.FoundLaws.{first_is_named}
use Rattle.dict_types.proofs.laws.the_fault_is_first.Goals as goal

pub returns-clause-first : goal.returns-clause-first
returns-clause-first c = fault_is_first

pub returns-clause-named : goal.returns-clause-named
returns-clause-named c = first_is_named
