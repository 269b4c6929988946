use Rattle.three_state.proofs.RuleLaws.{junction-complete}
use Rattle.three_state.proofs.laws.junctions_of_complete_are_complete.Goals as goal

pub returns : goal.returns
returns c = junction-complete
