use Rattle.three_state.proofs.FoldLaws.{junction-append, junction-push, junction_on-start}
use Rattle.three_state.proofs.laws.junctions_go_on.Goals as goal

pub returns : goal.returns
returns c = record { start = junction_on-start; next = junction-push; seen = junction-append }
