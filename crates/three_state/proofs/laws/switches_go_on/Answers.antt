use Rattle.std.proofs.Common.{refl}
use Rattle.three_state.proofs.RuleLaws.{switch_on-next}
use Rattle.three_state.proofs.laws.switches_go_on.Goals as goal

pub returns : goal.returns
returns c = record { start = λ cs. refl; next = switch_on-next }
