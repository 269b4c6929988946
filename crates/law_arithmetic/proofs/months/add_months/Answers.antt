use Rattle.std.proofs.Common.{◌∙◌, ◌<◌, ◌+ℤ◌, ℤ, unsigned_abs, w64, to_z, of_z, arith}
use Rattle.std.proofs.lemmas.Bool.Decides.{nat_tests}
use Rattle.jiff_core.proofs.SignedLemmas.{signed_arith}
use Rattle.law_arithmetic.specs.Dates.{date_of}
use Rattle.law_arithmetic.specs.Months.{months_later}
use Rattle.law_arithmetic.proofs.MonthLemmas.{is_months_later, months_by_parts}
use Rattle.law_arithmetic.proofs.months.add_months.Goals as goal

pub overflow_add-total : goal.overflow_add-total
overflow_add-total c =
    let size : unsigned_abs c.get.result < 1000000000000000 = grind (arith, nat_tests) in
    omega (arith, signed_arith, c.date_of-date.ensures.dated, c.months_before.ensures, size)

pub returns-clause-value : goal.returns-clause-value
returns-clause-value c =
    let size : unsigned_abs c.get.result < 1000000000000000 = grind (arith, nat_tests) in
    let total : ℤ = to_z w64 (of_z w64 (to_z w64 (of_z w64 c.months_before.result) +ℤ to_z w64 (of_z w64 c.get.result))) in
    c.after_january.ensures
    ∙ months_by_parts c.args.day c.args.months c.date_of-date.result total c.date_of-date.ensures.value
    (omega (arith, signed_arith, c.date_of-date.ensures.dated, c.months_before.ensures, c.get.ensures.value, size))

pub returns-clause-date : goal.returns-clause-date
returns-clause-date c =
    (months_later (date_of c.args.day) c.args.months, is_months_later (date_of c.args.day) c.args.months, returns-clause-value c)
