use Rattle.std.proofs.Common.{◌≡◌, ◌∙◌, ◌*◌, ◌≤◌, ℕ, ap, subst, to_z, of_z, arith}
use Rattle.std.specs.Int.{w128}
use Rattle.std.proofs.lemmas.Int.{ints}
use Rattle.law_arithmetic.specs.Multiples.{cents_of, multiple_above}
use Rattle.law_arithmetic.proofs.MultipleLemmas.{up_by_parts, is_rounded_up}
use Rattle.law_arithmetic.proofs.multiples.round_up.Goals as goal

pub returns-clause-value : goal.returns-clause-value
returns-clause-value c =
    let cents = c.cents_of-cents.result in
    let num : to_z w128 (of_z w128 cents.num) ≡ (cents_of c.args.n).num = omega (arith, ints, c.cents_of-cents.ensures.size, c.cents_of-cents.ensures.num) in
    let den : c.parts.result ≡ (cents_of c.args.n).den * c.args.increment = c.parts.ensures.value ∙ ap (λ (d : ℕ). d * c.args.increment) c.cents_of-cents.ensures.den in
    let kept : to_z w128 (of_z w128 c.divide_up.result) ≡ c.divide_up.result = omega (arith, ints) in
    c.times.ensures
    ∙ up_by_parts c.args.increment c.args.n (to_z w128 (of_z w128 cents.num)) c.parts.result (to_z w128 (of_z w128 c.divide_up.result)) num den (kept ∙ c.divide_up.ensures)

pub returns-clause-least : goal.returns-clause-least
returns-clause-least c =
    let den : 1 ≤ (cents_of c.args.n).den = subst (λ (d : ℕ). 1 ≤ d) c.cents_of-cents.ensures.den c.cents_of-cents.ensures.some in
    (multiple_above c.args.increment (cents_of c.args.n), is_rounded_up c.args.increment (cents_of c.args.n) den c.parts.ensures.increment, returns-clause-value c)
