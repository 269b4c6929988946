use Rattle.fact_values.proofs.Divisors.{IsGcd-gcd}
use Rattle.fact_values.proofs.laws.gcd_is_greatest.Goals as goal

pub returns : goal.returns
returns c = IsGcd-gcd
