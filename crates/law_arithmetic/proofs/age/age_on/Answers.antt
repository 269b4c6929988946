use Rattle.std.proofs.Common.{◌∙◌, ℤ, sym, subst, arith, true, false}
use Rattle.std.proofs.lemmas.Int.{ints}
use Rattle.jiff_core.proofs.SignedLemmas.{signed_arith}
use Rattle.law_arithmetic.specs.Ages.{IsAge}
use Rattle.law_arithmetic.specs.Dates.{date_of}
use Rattle.law_arithmetic.proofs.AgeLemmas.{age_of_days, years_by_test}
use Rattle.law_arithmetic.proofs.age.age_on.Goals as goal

pub whole-requires : goal.whole-requires
whole-requires c = omega (arith, ints, c.date_of-born.ensures.dated, c.date_of-date.ensures.dated)

pub whole-requires-else-is_earlier_in_year : goal.whole-requires-else-is_earlier_in_year
whole-requires-else-is_earlier_in_year c = omega (arith, ints, c.date_of-born.ensures.dated, c.date_of-date.ensures.dated)

pub returns-then-is_earlier_in_year-clause-value : goal.returns-then-is_earlier_in_year-clause-value
returns-then-is_earlier_in_year-clause-value c =
    years_by_test c.args.born c.args.day c.date_of-born.result c.date_of-date.result true c.whole.result c.date_of-born.ensures.value c.date_of-date.ensures.value
    (sym c.is_earlier_in_year.ensures ∙ c.if-is_earlier_in_year.true)
    (omega (arith, signed_arith, c.whole.ensures, c.date_of-born.ensures.dated, c.date_of-date.ensures.dated))

pub returns-then-is_earlier_in_year-clause-age : goal.returns-then-is_earlier_in_year-clause-age
returns-then-is_earlier_in_year-clause-age c =
    subst (λ (x : ℤ). IsAge (date_of c.args.born) c.args.day x) (sym (returns-then-is_earlier_in_year-clause-value c))
    (age_of_days c.args.born c.args.day c.date_of-born.result c.date_of-date.result c.date_of-born.ensures.dated c.date_of-date.ensures.dated)

pub returns-else-is_earlier_in_year-clause-value : goal.returns-else-is_earlier_in_year-clause-value
returns-else-is_earlier_in_year-clause-value c =
    years_by_test c.args.born c.args.day c.date_of-born.result c.date_of-date.result false c.whole-else-is_earlier_in_year.result c.date_of-born.ensures.value c.date_of-date.ensures.value
    (sym c.is_earlier_in_year.ensures ∙ c.if-is_earlier_in_year.false)
    (omega (arith, signed_arith, c.whole-else-is_earlier_in_year.ensures, c.date_of-born.ensures.dated, c.date_of-date.ensures.dated))

pub returns-else-is_earlier_in_year-clause-age : goal.returns-else-is_earlier_in_year-clause-age
returns-else-is_earlier_in_year-clause-age c =
    subst (λ (x : ℤ). IsAge (date_of c.args.born) c.args.day x) (sym (returns-else-is_earlier_in_year-clause-value c))
    (age_of_days c.args.born c.args.day c.date_of-born.result c.date_of-date.result c.date_of-born.ensures.dated c.date_of-date.ensures.dated)
