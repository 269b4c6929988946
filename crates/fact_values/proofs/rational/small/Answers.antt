use Rattle.std.proofs.Common.{arith, ◌≡◌, ◌≤◌, ℤ, unsigned_abs, FitsSigned, w64, to_z, of_z}
use Rattle.std.specs.Int.{w128}
use Rattle.std.proofs.lemmas.Int.{to_z-of_z, fits_signed_from_abs}
use Rattle.fact_values.proofs.rational.small.Goals as goal

narrowed : (z : ℤ) → FitsSigned w128 z → unsigned_abs z ≤ 1000000000000 → to_z w64 (of_z w64 (to_z w128 (of_z w128 z))) ≡ z
narrowed z fits le =
    let fits64 : FitsSigned w64 z = fits_signed_from_abs w64 z (omega arith) in
    rw (to_z-of_z w128 z fits) (to_z-of_z w64 z fits64)

pub invariant_of-result : goal.invariant_of-result
invariant_of-result c =
    let le : unsigned_abs c.args.num ≤ 1000000000000 = grind arith in
    rw (narrowed _ c.ranges.num le) (c.requires.some, omega arith, le, c.requires.lowest)
