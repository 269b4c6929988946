use Rattle.std.proofs.Common.{◌≡◌, w64, to_z, of_z, sym, subst, arith, rules}
use Rattle.std.proofs.lemmas.Int.{ints}
use Rattle.jiff_core.specs.Date.{epoch_day}
use Rattle.fact_values.specs.Days.{IsDay}
use Rattle.fact_values.proofs.Days.{IsDateOf-epoch_day}
use Rattle.law_arithmetic.proofs.DateLemmas.{date_of-date}
use Rattle.law_arithmetic.proofs.civil_date.date_of.Goals as goal

pub returns-clause-dated : goal.returns-clause-dated
returns-clause-dated c =
    let e : epoch_day c.unwrap-year.result ≡ c.args.day = search rules in
    let year : to_z w64 (of_z w64 c.from.result) ≡ c.unwrap-year.result.year = omega (arith, ints) in
    let range : IsDay c.args.day = subst IsDay c.number.ensures.value c.number.ensures.in_range in
    rw year (IsDateOf-epoch_day c.unwrap-year.result c.args.day range e)

pub returns-clause-value : goal.returns-clause-value
returns-clause-value c =
    sym (date_of-date c.args.day (record { year = to_z w64 (of_z w64 c.from.result); month = c.unwrap-year.result.month; day = c.unwrap-year.result.day }) (returns-clause-dated c))
