use Rattle.std.proofs.Common.{◌∙◌, sym, arith}
use Rattle.fact_values.proofs.Divisors.{gcd-mod, gcd-zero}
use Rattle.fact_values.proofs.rational.gcd.Goals as goal

pub loop-rest-preserved : goal.loop-rest-preserved
loop-rest-preserved c = gcd-mod _ _ ∙ c.loop-rest.invariant

pub returns : goal.returns
returns c = sym (gcd-zero _ _ (omega arith)) ∙ c.loop-rest.invariant
