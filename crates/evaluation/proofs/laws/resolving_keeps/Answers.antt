use Rattle.evaluation.proofs.ResolvingLaws.{resolved-gives, resolved-reads, resolved-weighs}
use Rattle.evaluation.proofs.laws.resolving_keeps.Goals as goal

pub returns : goal.returns
returns g c = record { result = resolved-gives; weight = resolved-weighs; reads = resolved-reads }
