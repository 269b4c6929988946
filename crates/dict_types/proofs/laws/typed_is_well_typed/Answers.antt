use Rattle.dict_types.proofs.DictLaws.{typed_is_well_typed}
use Rattle.dict_types.proofs.FoundLaws.{well_typed_is_found}
use Rattle.dict_types.proofs.laws.typed_is_well_typed.Goals as goal

pub returns-clause-right : goal.returns-clause-right
returns-clause-right c = typed_is_well_typed

pub returns-clause-all : goal.returns-clause-all
returns-clause-all c = well_typed_is_found
