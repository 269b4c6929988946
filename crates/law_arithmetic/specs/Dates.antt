-- Dates of the Gregorian calendar, and the days that have them.
use Rattle.std.specs.Prelude.{ℕ, zero, suc, ◌+◌, ℤ, pos, ◌-ℤ◌, not, ◌&&◌, Bool, if◌then◌else◌, int_lt, unsigned_abs, Result, Ok, Err}
use Rattle.jiff_core.specs.Calendar.{days_from_civil}
use Rattle.fact_values.specs.Days.{IsDateOf, year_of}
use Rattle.fact_values.specs.declared.fault.ValueFault.{ValueFault}
use Rattle.fact_values.specs.declared.fault.ValueFault.TheVariants.{Overflow}
use Rattle.law_arithmetic.specs.declared.civil_date.CivilDate.{CivilDate}

-- the number of the day with this date
abbrev pub number : CivilDate → ℤ
number date = days_from_civil date.year date.month date.day

-- the calendar has the date, its year is one from 1800 to 2199, and the day with number n is its day
abbrev pub HasDate : ℤ → CivilDate → Type 0
HasDate n date = IsDateOf n date.year (pos date.month) (pos date.day)

-- among January and so many months after it, the last whose first day is not after the day
unfoldable pub last_month_begun : ℕ → ℤ → ℤ → ℕ
last_month_begun zero year n = 1
last_month_begun (suc k) year n =
    if int_lt n (days_from_civil year (suc k + 1) 1) then last_month_begun k year n
    else suc k + 1

-- the month of the day with number n
abbrev pub month_of : ℤ → ℕ
month_of n = last_month_begun 11 (year_of n) n

-- its place in the month, from 1
abbrev pub day_of : ℤ → ℕ
day_of n = unsigned_abs (n -ℤ days_from_civil (year_of n) (month_of n) 1) + 1

-- its date
abbrev pub date_of : ℤ → CivilDate
date_of n = record { year = year_of n; month = month_of n; day = day_of n }

-- days have a year from 1800 to 2199
abbrev pub is_year : ℤ → Bool
is_year year = not (int_lt year (pos 1800)) && not (int_lt (pos 2199) year)

-- the day of a date: Overflow where its year is out of that range
abbrev pub numbered : CivilDate → Result ℤ ValueFault
numbered date = if is_year date.year then Ok (number date) else Err Overflow
