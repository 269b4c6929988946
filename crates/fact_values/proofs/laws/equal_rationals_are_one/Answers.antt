use Rattle.fact_values.proofs.Unique.{lowest-unique}
use Rattle.fact_values.proofs.laws.equal_rationals_are_one.Goals as goal

pub returns : goal.returns
returns c = lowest-unique
