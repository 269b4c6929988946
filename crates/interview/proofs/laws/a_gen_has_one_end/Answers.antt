use Rattle.interview_ends.proofs.LoadLaws.{one_gen}
use Rattle.interview.proofs.laws.a_gen_has_one_end.Goals as goal

pub returns : goal.returns
returns c = one_gen
