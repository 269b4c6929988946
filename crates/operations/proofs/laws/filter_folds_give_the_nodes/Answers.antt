use Rattle.operations.proofs.FilterLaws.{filter_on-source, kept-member_list}
use Rattle.operations.proofs.laws.filter_folds_give_the_nodes.Goals as goal

pub returns : goal.returns
returns c = record { filter = filter_on-source; members = kept-member_list }
