use Rattle.dictionary.proofs.FirstLaws.{accepted_has_none, one_fault}
use Rattle.dictionary.proofs.laws.the_fault_is_one.Goals as goal

pub returns-clause-none : goal.returns-clause-none
returns-clause-none c = accepted_has_none

pub returns-clause-one : goal.returns-clause-one
returns-clause-one c = one_fault
