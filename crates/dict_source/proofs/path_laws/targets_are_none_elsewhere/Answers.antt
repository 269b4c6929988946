use Rattle.std.proofs.Common.{refl}
use Rattle.dict_source.proofs.TargetsLaws.{sibling_nowhere, sibling_through_nowhere}
use Rattle.dict_source.proofs.path_laws.targets_are_none_elsewhere.Goals as goal

pub returns-clause-sibling : goal.returns-clause-sibling
returns-clause-sibling c = sibling_nowhere

pub returns-clause-sibling_through : goal.returns-clause-sibling_through
returns-clause-sibling_through c = sibling_through_nowhere

pub returns-clause-inner : goal.returns-clause-inner
returns-clause-inner c = λ d fact n. refl
