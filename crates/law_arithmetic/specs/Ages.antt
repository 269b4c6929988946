-- The age of a person on a day: whole years completed.
use Rattle.std.specs.Prelude.{ℤ, pos, ◌+ℤ◌, ◌-ℤ◌, ◌≤ℤ◌, ◌<ℤ◌, Bool, ◌&&◌, ◌||◌, ◌==◌, nat_le, nat_lt, if◌then◌else◌}
use Rattle.jiff_core.specs.Calendar.{IsYear, days_from_civil, days_in_month}
use Rattle.law_arithmetic.specs.declared.civil_date.CivilDate.{CivilDate}
use Rattle.law_arithmetic.specs.Dates.{date_of}

-- ---- what the law says

-- the birthday in a year of one born on a date, and 1 March where the year has no 29 February
abbrev pub birthday_in : ℤ → CivilDate → ℤ
birthday_in year born =
    if nat_le born.day (days_in_month year born.month) then days_from_civil year born.month born.day
    else days_from_civil year 3 1

-- The birthday that completes so many years. Before birth the years are counted back, so that -1 is that of the year before it.
abbrev pub birthday : CivilDate → ℤ → ℤ
birthday born years = birthday_in (born.year +ℤ years) born

-- So many years are completed: their birthday has come, and the next one hasn't. Before birth it is the negative number of years begun.
pub record IsAge (born : CivilDate) (day : ℤ) (years : ℤ) : Type 0 where
  -- the calendar has the years of both birthdays
  pub year : IsYear (born.year +ℤ years)
  pub next_year : IsYear (born.year +ℤ (years +ℤ pos 1))
  pub completed : birthday born years ≤ℤ day
  pub not_yet : day <ℤ birthday born (years +ℤ pos 1)

-- ---- the number of years, by month and day

-- a date's month and day come before another's in the year
abbrev pub is_earlier_in_year : CivilDate → CivilDate → Bool
is_earlier_in_year date other =
    nat_lt date.month other.month || ((date.month == other.month) && nat_lt date.day other.day)

-- the difference of the years, and one less before the birthday
abbrev pub years_completed : CivilDate → CivilDate → ℤ
years_completed born date =
    if is_earlier_in_year date born then date.year -ℤ born.year -ℤ pos 1
    else date.year -ℤ born.year

-- the age on the second day of one born on the first
abbrev pub age_on : ℤ → ℤ → ℤ
age_on born day = years_completed (date_of born) (date_of day)
