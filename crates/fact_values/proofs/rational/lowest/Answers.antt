use Rattle.std.proofs.Common.{◌≡◌, rules, FitsSigned, to_z, of_z}
use Rattle.std.specs.Int.{w128}
use Rattle.std.proofs.lemmas.Int.{to_z-of_z}
use Rattle.fact_values.proofs.Divisors.{gcd_pos, div-gcd_pos}
use Rattle.fact_values.proofs.Rationals.{IsGcd-lowest}
use Rattle.fact_values.proofs.rational.lowest.Goals as goal

pub divided-requires-clause-some : goal.divided-requires-clause-some
divided-requires-clause-some c = rw c.gcd-divisor.ensures (rw c.unsigned_abs.ensures.value (gcd_pos _ _ c.requires.some))

pub nonzero_div-den : goal.nonzero_div-den
nonzero_div-den c = rw c.gcd-divisor.ensures (rw c.unsigned_abs.ensures.value (gcd_pos _ _ c.requires.some))

pub small-requires-clause-some : goal.small-requires-clause-some
small-requires-clause-some c = rw c.gcd-divisor.ensures (rw c.unsigned_abs.ensures.value (div-gcd_pos _ _ c.requires.some))

pub small-requires-clause-lowest : goal.small-requires-clause-lowest
small-requires-clause-lowest c =
    let fits : FitsSigned w128 c.divided.result = search rules in
    let same : to_z w128 (of_z w128 c.args.num) ≡ c.args.num = to_z-of_z w128 _ c.ranges.num in
    rw (to_z-of_z w128 c.divided.result fits)
    (rw c.divided.ensures (rw c.gcd-divisor.ensures (rw c.unsigned_abs.ensures.value (rw same (IsGcd-lowest c.args.num c.args.den c.requires.some)))))
