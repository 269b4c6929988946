-- The day so many months or years later.
use Rattle.std.specs.Prelude.{◌≡◌, ℕ, ◌+◌, ◌<◌, ◌≤◌, min, ℤ, pos, ◌+ℤ◌, ◌-ℤ◌, ◌*ℤ◌, unsigned_abs, Result}
use Rattle.std.specs.Int.{IsInRange, int_div_euclid, int_rem_euclid}
use Rattle.jiff_core.specs.Calendar.{days_in_month}
use Rattle.fact_values.specs.declared.fault.ValueFault.{ValueFault}
use Rattle.law_arithmetic.specs.declared.civil_date.CivilDate.{CivilDate}
use Rattle.law_arithmetic.specs.Dates.{date_of, numbered}

-- ---- what the law says

-- the same day of the month, or the month's last where it lacks that day
pub record IsDayKept (day : ℕ) (later : CivilDate) : Type 0 where
  pub kept : day ≤ days_in_month later.year later.month → later.day ≡ day
  pub last : days_in_month later.year later.month < day → later.day ≡ days_in_month later.year later.month

-- the months up to a date's own, of all years from 0 on
abbrev pub months_up_to : CivilDate → ℤ
months_up_to date = pos 12 *ℤ date.year +ℤ pos date.month

-- so many months after a date, or before it for a negative number
pub record IsMonthsLater (date : CivilDate) (months : ℤ) (later : CivilDate) : Type 0 where
  pub count : months_up_to later ≡ (months_up_to date +ℤ months)
  pub month : IsInRange 1 12 later.month
  pub day : IsDayKept date.day later

-- so many years after a date, or before it for a negative number
pub record IsYearsLater (date : CivilDate) (years : ℤ) (later : CivilDate) : Type 0 where
  pub year : later.year ≡ (date.year +ℤ years)
  pub month : later.month ≡ date.month
  pub day : IsDayKept date.day later

-- ---- the date itself

-- the day of a month, or the month's last
abbrev pub in_month : ℤ → ℕ → ℕ → CivilDate
in_month year month day = record { year = year; month = month; day = min day (days_in_month year month) }

-- the month that so many months from January of the year 0 on lead to, with the day
abbrev pub after_january : ℤ → ℕ → CivilDate
after_january months day =
    in_month (int_div_euclid months (pos 12)) (unsigned_abs (int_rem_euclid months (pos 12)) + 1) day

abbrev pub months_later : CivilDate → ℤ → CivilDate
months_later date months = after_january (months_up_to date +ℤ months -ℤ pos 1) date.day

abbrev pub years_later : CivilDate → ℤ → CivilDate
years_later date years = in_month (date.year +ℤ years) date.month date.day

-- ---- days

abbrev pub months_after : ℤ → ℤ → Result ℤ ValueFault
months_after day months = numbered (months_later (date_of day) months)

abbrev pub years_after : ℤ → ℤ → Result ℤ ValueFault
years_after day years = numbered (years_later (date_of day) years)
