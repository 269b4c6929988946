use Rattle.std.proofs.Common.{◌∙◌, ◌<◌, ◌+ℤ◌, unsigned_abs, w64, to_z, of_z, arith}
use Rattle.std.proofs.lemmas.Bool.Decides.{nat_tests}
use Rattle.jiff_core.proofs.SignedLemmas.{signed_arith}
use Rattle.law_arithmetic.specs.Dates.{date_of}
use Rattle.law_arithmetic.specs.Months.{years_later}
use Rattle.law_arithmetic.proofs.MonthLemmas.{is_years_later, years_by_parts}
use Rattle.law_arithmetic.proofs.months.add_years.Goals as goal

pub returns-clause-value : goal.returns-clause-value
returns-clause-value c =
    let size : unsigned_abs c.get.result < 1000000000000000 = grind (arith, nat_tests) in
    c.in_month.ensures
    ∙ years_by_parts c.args.day c.args.years c.date_of-date.result (to_z w64 (of_z w64 (to_z w64 (of_z w64 c.date_of-date.result.year) +ℤ to_z w64 (of_z w64 c.get.result)))) c.date_of-date.ensures.value
    (omega (arith, signed_arith, c.date_of-date.ensures.dated, c.get.ensures.value, size))

pub returns-clause-date : goal.returns-clause-date
returns-clause-date c =
    (years_later (date_of c.args.day) c.args.years, is_years_later (date_of c.args.day) c.args.years, returns-clause-value c)
