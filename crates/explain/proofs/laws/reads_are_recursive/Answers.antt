use Rattle.explain.proofs.ReachLaws.{reads-recursive}
use Rattle.explain.proofs.laws.reads_are_recursive.Goals as goal

pub returns : goal.returns
returns c = reads-recursive
