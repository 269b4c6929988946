use Rattle.three_state.proofs.RuleLaws.{filter_on-start}
use Rattle.three_state.proofs.laws.filters_go_on.Goals as goal

pub returns : goal.returns
returns c = filter_on-start
