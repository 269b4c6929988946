use Rattle.std.proofs.Common.{◌≡◌, ◌∙◌, ◌*◌, ◌≤◌, ℕ, ◌+◌, ap, unsigned_abs, subst, to_z, of_z, arith}
use Rattle.std.specs.Int.{w128}
use Rattle.std.proofs.lemmas.Int.{ints}
use Rattle.law_arithmetic.specs.Multiples.{cents_of, multiple_near}
use Rattle.law_arithmetic.proofs.MultipleLemmas.{near_by_parts, is_rounded_nearest, rounded_is_small}
use Rattle.law_arithmetic.proofs.multiples.round_nearest.Goals as goal

pub times-requires : goal.times-requires
times-requires c =
    let cents = c.cents_of-cents.result in
    let small = rounded_is_small (to_z w128 (of_z w128 cents.num)) c.parts.result c.parts.ensures.some in
    let size : unsigned_abs c.divide_near.result ≤ unsigned_abs (to_z w128 (of_z w128 cents.num)) + 1 = rw c.divide_near.ensures small in
    omega (arith, ints, size, c.cents_of-cents.ensures.size)

pub returns-clause-value : goal.returns-clause-value
returns-clause-value c =
    let cents = c.cents_of-cents.result in
    let num : to_z w128 (of_z w128 cents.num) ≡ (cents_of c.args.n).num = omega (arith, ints, c.cents_of-cents.ensures.size, c.cents_of-cents.ensures.num) in
    let den : c.parts.result ≡ (cents_of c.args.n).den * c.args.increment = c.parts.ensures.value ∙ ap (λ (d : ℕ). d * c.args.increment) c.cents_of-cents.ensures.den in
    let kept : to_z w128 (of_z w128 c.divide_near.result) ≡ c.divide_near.result = omega (arith, ints) in
    c.times.ensures
    ∙ near_by_parts c.args.increment c.args.n (to_z w128 (of_z w128 cents.num)) c.parts.result (to_z w128 (of_z w128 c.divide_near.result)) num den (kept ∙ c.divide_near.ensures)

pub returns-clause-nearest : goal.returns-clause-nearest
returns-clause-nearest c =
    let den : 1 ≤ (cents_of c.args.n).den = subst (λ (d : ℕ). 1 ≤ d) c.cents_of-cents.ensures.den c.cents_of-cents.ensures.some in
    (multiple_near c.args.increment (cents_of c.args.n), is_rounded_nearest c.rounding_is_nearest.ensures c.args.increment (cents_of c.args.n) den c.parts.ensures.increment, returns-clause-value c)
