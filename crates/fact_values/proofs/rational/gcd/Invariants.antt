use Rattle.std.proofs.Common.{◌≡◌}
use Rattle.fact_values.specs.Rationals.{gcd as greatest_divisor}
use Rattle.fact_values.proofs.rational.gcd.Given as goal

abbrev pub invariant-loop-rest : goal.invariant-loop-rest
invariant-loop-rest l = greatest_divisor l.divisor l.rest ≡ greatest_divisor l.fn.a l.fn.b

abbrev pub decreases-loop-rest : goal.decreases-loop-rest
decreases-loop-rest l = l.rest
