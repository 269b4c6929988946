use Rattle.std.proofs.Common.{unsigned_abs}
use Rattle.fact_values.proofs.Divisors.{div-gcd_pos}
use Rattle.fact_values.proofs.Rationals.{IsGcd-lowest, lowest-equal}
use Rattle.fact_values.proofs.laws.lowest_terms.Goals as goal

pub returns : goal.returns
returns c = record {
  equal = lowest-equal;
  denominator = λ n d some. div-gcd_pos (unsigned_abs n) d some;
  lowest = IsGcd-lowest;
}
