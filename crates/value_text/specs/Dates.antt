-- The texts of days, as `2024-02-29`.
use Rattle.std.specs.Prelude.{◌≡◌, ℕ, zero, suc, ◌+◌, ◌/◌, ◌%◌, ◌&&◌, ◌==◌, Bool, nat_le, List, [], ◌∷◌, ◌++◌, length, take, slice_index, slice_range, Option, Some, None, option_and_then, if◌then◌else◌, ℤ, pos, ◌-ℤ◌, int_lt, unsigned_abs}
use Rattle.std.specs.Str.Parse.{digits_value}
use Rattle.jiff_core.specs.Calendar.{days_in_month}
use Rattle.jiff_core.specs.March.{march_days, march_months}
use Rattle.fact_values.specs.Days.{IsDateOf}
use Rattle.value_text.specs.Digits.{AreDigits, number_at}

-- four digits of the year, two of the month and two of the day, which are the date of the day
abbrev pub SpellsDay : List ℕ → ℤ → Type 0
SpellsDay text n =
    (year : List ℕ) × (month : List ℕ) × (day : List ℕ) × (text ≡ year ++ 45 ∷ (month ++ 45 ∷ day))
    × AreDigits 4 4 year × AreDigits 2 2 month × AreDigits 2 2 day
    × IsDateOf n (pos (digits_value 10 year)) (pos (digits_value 10 month)) (pos (digits_value 10 day))

-- ---- dates

-- the calendar has this date, in one of the years from 1800 to 2199
abbrev pub is_date : ℕ → ℕ → ℕ → Bool
is_date year month day =
    (nat_le 1800 year && nat_le year 2199) && ((nat_le 1 month && nat_le month 12) && (nat_le 1 day && nat_le day (days_in_month (pos year) month)))

-- how many days lie between 1 January of the year -10000 and the date
abbrev pub days_before : ℕ → ℕ → ℕ → ℕ
days_before year month day =
    if nat_le month 2
    then march_days (year + 9999) + march_months (month + 12) + day + 59
    else march_days (year + 10000) + march_months month + day + 59

-- the number of a date, 0 for 1970-01-01
abbrev pub date_number : ℕ → ℕ → ℕ → ℤ
date_number year month day = pos (days_before year month day) -ℤ pos 4371953

-- the day with this date, where there is one
abbrev pub day_of_date : ℕ → ℕ → ℕ → Option ℤ
day_of_date year month day = if is_date year month day then Some (date_number year month day) else None

-- ---- reading

abbrev pub is_date_text : List ℕ → Bool
is_date_text text = (length text == 10) && (slice_index text 4 == 45 && slice_index text 7 == 45)

abbrev pub date_in : List ℕ → Option ℤ
date_in text =
    option_and_then (λ year. option_and_then (λ month. option_and_then (λ day. day_of_date year month day) (number_at 2 2 (slice_range text 8 10))) (number_at 2 2 (slice_range text 5 7))) (number_at 4 4 (take 4 text))

-- the day that a text spells
abbrev pub day_at : List ℕ → Option ℤ
day_at text = if is_date_text text then date_in text else None

-- ---- printing

-- among so many numbers above 0, the last whose start isn't after the day, or 0
abbrev pub last_begun : (ℕ → ℤ) → ℕ → ℤ → ℕ
last_begun start zero n = 0
last_begun start (suc k) n = if int_lt n (start (suc k)) then last_begun start k n else suc k

-- the date of a day
abbrev pub year_of_day : ℤ → ℕ
year_of_day n = 1800 + last_begun (λ k. date_number (1800 + k) 1 1) 399 n

abbrev pub month_of_day : ℤ → ℕ
month_of_day n = 1 + last_begun (λ k. date_number (year_of_day n) (1 + k) 1) 11 n

abbrev pub day_of_month : ℤ → ℕ
day_of_month n = 1 + unsigned_abs (n -ℤ date_number (year_of_day n) (month_of_day n) 1)

-- two digits
abbrev pub two_digits : ℕ → List ℕ
two_digits n = (48 + n / 10 % 10) ∷ (48 + n % 10) ∷ []

-- a date as ten bytes
abbrev pub printed_date : ℕ → ℕ → ℕ → List ℕ
printed_date year month day = two_digits (year / 100) ++ (two_digits year ++ 45 ∷ (two_digits month ++ 45 ∷ two_digits day))

abbrev pub printed_day : ℤ → List ℕ
printed_day n = printed_date (year_of_day n) (month_of_day n) (day_of_month n)
