use Rattle.answers.proofs.OpenedListsLaws.{given_well}
use Rattle.answers.proofs.laws.given_lists_are_well_formed.Goals as goal

pub returns : goal.returns
returns c = given_well
