use Rattle.three_state.proofs.OrderLaws.{down-down, down-never-complete}
use Rattle.three_state.proofs.laws.down_is_never_complete.Goals as goal

pub returns : goal.returns
returns c = record { never = down-never-complete; twice = down-down }
