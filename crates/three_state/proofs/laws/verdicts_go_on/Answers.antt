use Rattle.three_state.proofs.FoldLaws.{verdict_of-push, verdict_on-start}
use Rattle.three_state.proofs.RuleLaws.{incomplete-stays}
use Rattle.three_state.proofs.laws.verdicts_go_on.Goals as goal

pub returns : goal.returns
returns c = record { start = verdict_on-start; next = verdict_of-push; incomplete = incomplete-stays }
