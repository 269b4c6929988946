use Rattle.evaluation.proofs.ReadsLaws.{reads-decide}
use Rattle.evaluation.proofs.laws.reads_decide.Goals as goal

pub returns : goal.returns
returns g c = reads-decide
