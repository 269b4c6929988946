use Rattle.dict_source.proofs.FindingLaws.{find_path-first, find_path-none, first_is_there}
use Rattle.dict_source.proofs.path_laws.the_first_is_found.Goals as goal

pub returns-clause-first : goal.returns-clause-first
returns-clause-first c = find_path-first

pub returns-clause-nothing : goal.returns-clause-nothing
returns-clause-nothing c = find_path-none

pub returns-clause-there : goal.returns-clause-there
returns-clause-there c = first_is_there
