use Rattle.interview.proofs.EngineLaws.{runs_agree}
use Rattle.interview.proofs.laws.runs_agree.Goals as goal

pub returns : goal.returns
returns c = runs_agree
