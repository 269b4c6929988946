-- Days of the Gregorian calendar, each by its number: 1970-01-01 is 0, and the day after it 1.
use Rattle.std.specs.Prelude.{◌≡◌, ℕ, zero, suc, ◌+◌, Bool, IsTrue, not, ◌&&◌, if◌then◌else◌, Result, Ok, Err, ℤ, pos, negsuc, ◌+ℤ◌, int_lt, unsigned_abs}
use Rattle.jiff_core.specs.Calendar.{IsBetween, IsDate, days_from_civil}
use Rattle.fact_values.specs.declared.fault.ValueFault.{ValueFault}
use Rattle.fact_values.specs.declared.fault.ValueFault.TheVariants.{Overflow}

-- 1800-01-01
abbrev pub first_day : ℤ
first_day = negsuc 62090

-- 2199-12-31
abbrev pub last_day : ℤ
last_day = pos 84005

-- one of the days from the first to the last
abbrev pub is_day : ℤ → Bool
is_day n = not (int_lt n first_day) && not (int_lt last_day n)

abbrev pub IsDay : ℤ → Type 0
IsDay n = IsTrue (is_day n)

-- the number of a date
abbrev pub number_of : ℤ → ℤ → ℤ → ℤ
number_of year month day = days_from_civil year (unsigned_abs month) (unsigned_abs day)

-- the calendar has this date, and its year is one from 1800 to 2199
abbrev pub IsDateInRange : ℤ → ℤ → ℤ → Type 0
IsDateInRange year month day = IsDate year month day × IsBetween (pos 1800) (pos 2199) year

-- the date of the day with number n
abbrev pub IsDateOf : ℤ → ℤ → ℤ → ℤ → Type 0
IsDateOf n year month day = IsDateInRange year month day × (number_of year month day ≡ n)

-- among 1800 and so many years after it, the last whose 1 January is not after the day
unfoldable pub last_year_begun : ℕ → ℤ → ℤ
last_year_begun zero n = pos 1800
last_year_begun (suc k) n =
    if int_lt n (number_of (pos (suc k + 1800)) (pos 1) (pos 1)) then last_year_begun k n
    else pos (suc k + 1800)

-- the year of the day with number n
abbrev pub year_of : ℤ → ℤ
year_of n = last_year_begun 399 n

-- so many days later, or earlier for a negative number: Overflow out of the range
abbrev pub day_after : ℤ → ℤ → Result ℤ ValueFault
day_after day n = if is_day (day +ℤ n) then Ok (day +ℤ n) else Err Overflow
