use Rattle.three_state.proofs.RuleLaws.{complete-strict, strict-complete}
use Rattle.three_state.proofs.laws.strict_of_complete_is_complete.Goals as goal

pub returns : goal.returns
returns c = record { complete = strict-complete; only = complete-strict }
