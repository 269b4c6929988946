use Rattle.std.proofs.Common.{arith}
use Rattle.answers.proofs.Start.{start_well, start_from_one}
use Rattle.answers.proofs.answers.Answers.new.Goals as goal

pub invariant_of-result : goal.invariant_of-result
invariant_of-result c = rw c.starting_at.ensures (start_well 1 (omega arith), start_from_one 1 (omega arith))
