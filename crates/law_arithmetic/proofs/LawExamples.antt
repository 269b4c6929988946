-- Worked examples of the definitions.
use Rattle.std.proofs.Common.{◌≡◌, ℕ, ℤ, pos, negsuc, true, List, [], ◌∷◌, Some, None, Ok, Err, refl}
use Rattle.fact_values.specs.declared.fault.ValueFault.TheVariants.{Overflow}
use Rattle.fact_values.specs.declared.num.Num.{Num}
use Rattle.fact_values.specs.declared.num.Num.TheVariants as num
use Rattle.fact_values.specs.declared.value.Value.TheVariants.{Dollar}
use Rattle.fact_values.specs.Numbers.{product, quotient}
use Rattle.fact_values.specs.Rationals.{gcd}
use Rattle.law_arithmetic.specs.declared.civil_date.CivilDate.{CivilDate}
use Rattle.law_arithmetic.specs.declared.table.Row.{Row}
use Rattle.law_arithmetic.specs.Ages.{years_completed}
use Rattle.law_arithmetic.specs.Dates.{numbered}
use Rattle.law_arithmetic.specs.Months.{months_later, years_later}
use Rattle.law_arithmetic.specs.Multiples.{rounded_up, rounded_down, rounded_nearest}
use Rattle.law_arithmetic.specs.Tables.{are_rising, looked_up}

abbrev on : ℕ → ℕ → ℕ → CivilDate
on year month day = record { year = pos year; month = month; day = day }

-- ---- ages

leap_born_before_march : years_completed (on 2000 2 29) (on 2018 2 28) ≡ pos 17
leap_born_before_march = refl

leap_born_in_march : years_completed (on 2000 2 29) (on 2018 3 1) ≡ pos 18
leap_born_in_march = refl

leap_born_in_a_leap_year : years_completed (on 2000 2 29) (on 2020 2 29) ≡ pos 20
leap_born_in_a_leap_year = refl

on_the_birthday : years_completed (on 2000 2 28) (on 2018 2 28) ≡ pos 18
on_the_birthday = refl

on_the_eve : years_completed (on 2000 2 28) (on 2018 2 27) ≡ pos 17
on_the_eve = refl

on_the_day_of_birth : years_completed (on 2000 2 28) (on 2000 2 28) ≡ pos 0
on_the_day_of_birth = refl

-- one year begins on the birthday before it, and ends with birth
on_the_eve_of_birth : years_completed (on 2000 2 28) (on 2000 2 27) ≡ negsuc 0
on_the_eve_of_birth = refl

a_year_before_birth : years_completed (on 2000 2 28) (on 1999 2 28) ≡ negsuc 0
a_year_before_birth = refl

in_the_second_year_before_birth : years_completed (on 2000 2 28) (on 1999 2 27) ≡ negsuc 1
in_the_second_year_before_birth = refl

-- ---- months and years

the_last_of_january : months_later (on 2024 1 31) (pos 1) ≡ on 2024 2 29
the_last_of_january = refl

the_last_of_january_in_a_common_year : months_later (on 2023 1 31) (pos 1) ≡ on 2023 2 28
the_last_of_january_in_a_common_year = refl

two_months_after_it : months_later (on 2024 1 31) (pos 2) ≡ on 2024 3 31
two_months_after_it = refl

back_over_the_year : months_later (on 2024 1 31) (negsuc 1) ≡ on 2023 11 30
back_over_the_year = refl

twenty_five_months : months_later (on 2024 12 15) (pos 25) ≡ on 2027 1 15
twenty_five_months = refl

a_leap_day_next_year : years_later (on 2024 2 29) (pos 1) ≡ on 2025 2 28
a_leap_day_next_year = refl

a_leap_day_in_four_years : years_later (on 2024 2 29) (pos 4) ≡ on 2028 2 29
a_leap_day_in_four_years = refl

beyond_2199 : numbered (months_later (on 2199 12 31) (pos 1)) ≡ Err Overflow
beyond_2199 = refl

before_1800 : numbered (years_later (on 1800 1 1) (negsuc 0)) ≡ Err Overflow
before_1800 = refl

-- ---- multiples

dollars_of : ℤ → Num
dollars_of cents = num.Rational (record { num = cents; den = 100 })

three_tenths : Num
three_tenths = num.Rational (record { num = pos 3; den = 10 })

-- 10.01 by 1.00 is exact, and 30 percent of it is 3.003 dollars
dollars_are_exact : quotient (num.Dollar (pos 1001)) (num.Dollar (pos 100)) ≡ Ok (dollars_of (pos 1001))
unfolding gcd dollars_of
dollars_are_exact = refl

thirty_percent : product (dollars_of (pos 1001)) three_tenths ≡ Ok (num.Rational (record { num = pos 3003; den = 1000 }))
unfolding gcd dollars_of three_tenths
thirty_percent = refl

thirty_percent_up : rounded_up 100 (num.Rational (record { num = pos 3003; den = 1000 })) ≡ Ok (pos 400)
thirty_percent_up = refl

thirty_percent_of_ten_up : rounded_up 100 (num.Rational (record { num = pos 3; den = 1 })) ≡ Ok (pos 300)
thirty_percent_of_ten_up = refl

a_cent_below_zero_down : rounded_down 100 (num.Dollar (negsuc 0)) ≡ Ok (negsuc 99)
a_cent_below_zero_down = refl

a_cent_below_zero_up : rounded_up 100 (num.Dollar (negsuc 0)) ≡ Ok (pos 0)
a_cent_below_zero_up = refl

-- 12.50 to fives
down_to_fives : rounded_down 500 (num.Dollar (pos 1250)) ≡ Ok (pos 1000)
down_to_fives = refl

half_of_five_up : rounded_nearest 500 (num.Dollar (pos 1250)) ≡ Ok (pos 1500)
half_of_five_up = refl

half_of_five_below_zero : rounded_nearest 500 (num.Dollar (negsuc 1249)) ≡ Ok (negsuc 1499)
half_of_five_below_zero = refl

less_than_half_of_five : rounded_nearest 500 (num.Dollar (pos 1249)) ≡ Ok (pos 1000)
less_than_half_of_five = refl

-- 2.5 cents
half_a_cent : rounded_nearest 1 (num.Rational (record { num = pos 1; den = 40 })) ≡ Ok (pos 3)
half_a_cent = refl

beyond_the_range : rounded_up 100 (num.Dollar (pos 999999999999999)) ≡ Err Overflow
beyond_the_range = refl

-- ---- tables

row : ℤ → ℤ → Row
row key cents = record { key = key; value = Dollar cents }

abbrev most_aid : List Row
most_aid = row (pos 1) (pos 29100) ∷ row (pos 2) (pos 53500) ∷ row (pos 3) (pos 76600) ∷ []

rising : are_rising most_aid ≡ true
unfolding row
rising = refl

for_one : looked_up most_aid (pos 1) ≡ Some (Dollar (pos 29100))
unfolding row
for_one = refl

for_two : looked_up most_aid (pos 2) ≡ Some (Dollar (pos 53500))
unfolding row
for_two = refl

for_nine : looked_up most_aid (pos 9) ≡ Some (Dollar (pos 76600))
unfolding row
for_nine = refl

for_none : looked_up most_aid (pos 0) ≡ None
unfolding row
for_none = refl
