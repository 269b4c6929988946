use Rattle.dict_source.proofs.TargetsLaws.{each_row, inner_row, sibling_row, sibling_through_row, through_row}
use Rattle.std.proofs.Common.{refl}
use Rattle.dict_source.proofs.path_laws.targets_go_by_the_form.Goals as goal

pub returns-clause-global : goal.returns-clause-global
returns-clause-global c = λ d fact base n. refl

pub returns-clause-sibling : goal.returns-clause-sibling
returns-clause-sibling c = sibling_row

pub returns-clause-inner : goal.returns-clause-inner
returns-clause-inner c = inner_row

pub returns-clause-each : goal.returns-clause-each
returns-clause-each c = each_row

pub returns-clause-through : goal.returns-clause-through
returns-clause-through c = through_row

pub returns-clause-sibling_through : goal.returns-clause-sibling_through
returns-clause-sibling_through c = sibling_through_row
