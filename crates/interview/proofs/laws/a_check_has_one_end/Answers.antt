use Rattle.interview_ends.proofs.CheckLaws.{one_end}
use Rattle.interview.proofs.laws.a_check_has_one_end.Goals as goal

pub returns : goal.returns
returns c = one_end
