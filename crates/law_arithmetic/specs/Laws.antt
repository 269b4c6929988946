-- Laws of months, ages and multiples.
use Rattle.std.specs.Prelude.{◌≡◌, ℕ, ◌≤◌, ℤ, pos, ◌*ℤ◌}
use Rattle.std.specs.Int.{IsInRange}
use Rattle.jiff_core.specs.Calendar.{IsCivilDate}
use Rattle.fact_values.specs.declared.num.Num.TheVariants.{Dollar}
use Rattle.fact_values.specs.Rationals.{Ratio}
use Rattle.fact_values.specs.Rounding.{rounded_dollar}
use Rattle.law_arithmetic.specs.declared.civil_date.CivilDate.{CivilDate}
use Rattle.law_arithmetic.specs.Ages.{IsAge}
use Rattle.law_arithmetic.specs.Dates.{HasDate, date_of}
use Rattle.law_arithmetic.specs.Months.{IsMonthsLater, IsYearsLater, months_later, years_later}
use Rattle.law_arithmetic.specs.Multiples.{IsRoundedUp, IsRoundedDown, IsRoundedNearest, rounded_nearest}

abbrev pub DateIsOnly : Type 0
DateIsOnly = (n : ℤ) (date : CivilDate) → HasDate n date → date_of n ≡ date

abbrev pub MonthsLaterIsOnly : Type 0
MonthsLaterIsOnly =
    (date : CivilDate) (months : ℤ) (a b : CivilDate) → IsMonthsLater date months a → IsMonthsLater date months b → a ≡ b

abbrev pub YearsLaterIsOnly : Type 0
YearsLaterIsOnly =
    (date : CivilDate) (years : ℤ) (a b : CivilDate) → IsYearsLater date years a → IsYearsLater date years b → a ≡ b

abbrev pub YearIsTwelveMonths : Type 0
YearIsTwelveMonths =
    (date : CivilDate) (years : ℤ) → IsInRange 1 12 date.month → months_later date (pos 12 *ℤ years) ≡ years_later date years

abbrev pub AgeIsOnly : Type 0
AgeIsOnly =
    (born : CivilDate) (day a b : ℤ) → IsCivilDate born.year born.month born.day → IsAge born day a → IsAge born day b → a ≡ b

abbrev pub RoundedUpIsOnly : Type 0
RoundedUpIsOnly = (unit : ℕ) (q : Ratio) (a b : ℤ) → IsRoundedUp unit q a → IsRoundedUp unit q b → a ≡ b

abbrev pub RoundedDownIsOnly : Type 0
RoundedDownIsOnly = (unit : ℕ) (q : Ratio) (a b : ℤ) → IsRoundedDown unit q a → IsRoundedDown unit q b → a ≡ b

abbrev pub RoundedNearestIsOnly : Type 0
RoundedNearestIsOnly =
    (unit : ℕ) (q : Ratio) (a b : ℤ) → 1 ≤ q.den → IsRoundedNearest unit q a → IsRoundedNearest unit q b → a ≡ b

-- the node Round is RoundNearest to 1.00
abbrev pub RoundIsToDollars : Type 0
RoundIsToDollars = (cents : ℤ) → rounded_nearest 100 (Dollar cents) ≡ rounded_dollar cents
