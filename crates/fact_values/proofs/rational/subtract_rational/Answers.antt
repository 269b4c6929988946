use Rattle.std.proofs.Common.{◌∙◌, arith}
use Rattle.std.proofs.lemmas.Int.{ints}
use Rattle.fact_values.proofs.Rationals.{same_checked}
use Rattle.fact_values.proofs.rational.subtract_rational.Goals as goal

pub returns-clause-difference : goal.returns-clause-difference
returns-clause-difference c =
    c.lowest.ensures.value
    ∙ same_checked (omega (arith, ints, c.crosswise.ensures.value, c.crosswise-2.ensures.value)) c.denominator.ensures.value
