use Rattle.interview_ends.proofs.SaveLaws.{one_save}
use Rattle.interview.proofs.laws.a_save_has_one_end.Goals as goal

pub returns : goal.returns
returns c = one_save
