-- A date in a year of the range has a day, so the last arm is never taken.
use Rattle.std.proofs.Common.{◌≡◌, pos, w64, to_z, of_z, sym, subst, arith}
use Rattle.jiff_core.specs.Calendar.{IsBetween, IsDate}
use Rattle.jiff_core.specs.Date.{epoch_day}
use Rattle.jiff_core.proofs.SignedLemmas.{signed_arith}
use Rattle.fact_values.specs.Days.{IsDay}
use Rattle.fact_values.proofs.Days.{IsDay-years}
use Rattle.law_arithmetic.proofs.months.in_month.Goals as goal

pub returns-in-None : goal.returns-in-None
returns-in-None c =
    let d = c.constrain-date.result in
    let month = d.month_in in
    let day = d.day_in in
    let n : to_z w64 (of_z w64 c.from.result) ≡ epoch_day d = omega (arith, signed_arith) in
    let date : IsDate d.year (pos d.month) (pos d.day) = (d.year_in, (omega (arith, signed_arith), omega (arith, signed_arith)), (omega (arith, signed_arith), omega (arith, signed_arith))) in
    let range : IsBetween (pos 1800) (pos 2199) d.year = (omega (arith, signed_arith), omega (arith, signed_arith)) in
    let in_range : IsDay (epoch_day d) = (IsDay-years d.year (pos d.month) (pos d.day) date).0 range in
    let some = c.in-None.ensures.accepted.1 (subst IsDay (sym n) in_range) in
    absurd cc
