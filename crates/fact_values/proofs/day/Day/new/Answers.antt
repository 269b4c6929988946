use Rattle.std.proofs.Common.{◌≡◌, refl, sym, subst, arith, rules, FitsSigned, w32, w64, to_z, of_z}
use Rattle.std.proofs.lemmas.Int.{ints, to_z-of_z}
use Rattle.fact_values.specs.Days.{IsDay, number_of}
use Rattle.fact_values.proofs.Days.{IsDay-years, number_of-parts}
use Rattle.fact_values.proofs.day.Day.new.Goals as goal

pub returns-clause-accepted : goal.returns-clause-accepted
returns-clause-accepted c =
    let fits_year = c.ranges.year in
    let fits_month = c.ranges.month in
    let fits_day = c.ranges.day in
    let date = simp to_z-of_z at c.in_ok-date.ensures in
    let fits : FitsSigned w32 c.to_unix_epoch_day.result = search rules in
    let same = number_of-parts c.in_ok-date.date c.args.year c.args.month c.args.day date.value in
    let n : to_z w64 (of_z w64 c.from.result) ≡ number_of c.args.year c.args.month c.args.day = omega (arith, ints, same) in
    let accepted = c.of_number.ensures.accepted in
    let years = IsDay-years c.args.year c.args.month c.args.day in (
      λ some. let calendar = date.accepted.0 refl in (calendar, (years calendar).1 (subst IsDay n (accepted.0 some))),
      λ h. accepted.1 (subst IsDay (sym n) ((years h.0).0 h.1)),
    )
