use Rattle.interview.proofs.RunLaws.{one_run}
use Rattle.interview.proofs.laws.a_run_has_one_end.Goals as goal

pub returns : goal.returns
returns c = one_run
