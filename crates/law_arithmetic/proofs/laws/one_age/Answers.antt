use Rattle.law_arithmetic.proofs.AgeLemmas.{only_age}
use Rattle.law_arithmetic.proofs.laws.one_age.Goals as goal

pub returns : goal.returns
returns c = only_age
