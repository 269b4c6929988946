-- Laws of days and their dates.
use Rattle.std.specs.Prelude.{◌≡◌, ◌↔◌, ℤ, pos}
use Rattle.jiff_core.specs.Calendar.{IsBetween, IsDate}
use Rattle.fact_values.specs.Days.{IsDay, IsDateOf, number_of, year_of}

-- a date of the calendar is in the range by its year exactly where it is by its number
abbrev pub RangeIsOfYears : Type 0
RangeIsOfYears =
    (year month day : ℤ) → IsDate year month day → IsBetween (pos 1800) (pos 2199) year ↔ IsDay (number_of year month day)

-- two dates of one day are the same date
abbrev pub DateIsOnly : Type 0
DateIsOnly =
    (n year month day year2 month2 day2 : ℤ) → IsDateOf n year month day → IsDateOf n year2 month2 day2
    → (year ≡ year2) × (month ≡ month2) × (day ≡ day2)

-- the year of a day is the year of its date
abbrev pub YearIsOfDate : Type 0
YearIsOfDate = (n year month day : ℤ) → IsDateOf n year month day → year_of n ≡ year
