-- The date so many months or years later is the one that the law names, and no other is.
use Rattle.std.proofs.Common.{◌≡◌, ℕ, ◌+◌, ℤ, pos, ◌+ℤ◌, ◌-ℤ◌, ◌*ℤ◌, unsigned_abs, refl, sym, ap, ◌∙◌, arith}
use Rattle.std.proofs.lemmas.Int.{by_lt_z}
use Rattle.std.specs.Int.{IsInRange, int_div_euclid, int_rem_euclid}
use Rattle.jiff_core.specs.Calendar.{days_in_month}
use Rattle.jiff_core.proofs.SignedLemmas.{signed_arith, int_rem_euclid-parts}
use Rattle.law_arithmetic.specs.declared.civil_date.CivilDate.{CivilDate}
use Rattle.law_arithmetic.specs.Months.{IsDayKept, IsMonthsLater, IsYearsLater, after_january, in_month, months_up_to, months_later, years_later, months_after, years_after}
use Rattle.law_arithmetic.specs.Dates.{date_of, numbered}
use Rattle.law_arithmetic.proofs.DateLemmas.{same_date}

day_is_kept : (year : ℤ) (month day : ℕ) → IsDayKept day (in_month year month day)
day_is_kept year month day = record { kept = λ le. omega arith; last = λ lt. omega arith }

pub is_months_later : (date : CivilDate) (months : ℤ) → IsMonthsLater date months (months_later date months)
is_months_later date months =
    let total : ℤ = months_up_to date +ℤ months -ℤ pos 1 in
    let parts = int_rem_euclid-parts total 12 (omega arith) in
    record {
      count = omega (arith, signed_arith, parts);
      month = (omega arith, omega (arith, signed_arith, parts));
      day = day_is_kept _ _ date.day;
    }

pub is_years_later : (date : CivilDate) (years : ℤ) → IsYearsLater date years (years_later date years)
is_years_later date years = record { year = refl; month = refl; day = day_is_kept _ _ date.day }

-- the day that is kept in a month is one
same_day : (day : ℕ) (a b : CivilDate) → a.year ≡ b.year → a.month ≡ b.month → IsDayKept day a → IsDayKept day b → a.day ≡ b.day
same_day day a b year month h k =
    let length : days_in_month a.year a.month ≡ days_in_month b.year b.month =
    ap (λ y. days_in_month y a.month) year ∙ ap (λ m. days_in_month b.year m) month in
    by_lt_z (pos (days_in_month a.year a.month)) (pos day)
    (λ lt. h.last (omega (arith, signed_arith, lt)) ∙ (length ∙ sym (k.last (omega (arith, signed_arith, lt, length)))))
    (λ le. h.kept (omega (arith, signed_arith, le)) ∙ sym (k.kept (omega (arith, signed_arith, le, length))))

pub only_months_later : (date : CivilDate) (months : ℤ) (a b : CivilDate) → IsMonthsLater date months a → IsMonthsLater date months b → a ≡ b
only_months_later date months a b h k =
    let year : a.year ≡ b.year = omega (arith, signed_arith, h.count, k.count, h.month, k.month) in
    let month : a.month ≡ b.month = omega (arith, signed_arith, h.count, k.count, h.month, k.month) in
    same_date a b year month (same_day date.day a b year month h.day k.day)

pub only_years_later : (date : CivilDate) (years : ℤ) (a b : CivilDate) → IsYearsLater date years a → IsYearsLater date years b → a ≡ b
only_years_later date years a b h k =
    let year : a.year ≡ b.year = h.year ∙ sym k.year in
    let month : a.month ≡ b.month = h.month ∙ sym k.month in
    same_date a b year month (same_day date.day a b year month h.day k.day)

-- ---- by the parts that the code works out

pub month_by_parts : (months year : ℤ) (month day : ℕ) → year ≡ int_div_euclid months (pos 12) → month ≡ unsigned_abs (int_rem_euclid months (pos 12)) + 1 → numbered (in_month year month day) ≡ numbered (after_january months day)
month_by_parts months year month day by_year by_month =
    ap (λ y. numbered (in_month y month day)) by_year ∙ ap (λ m. numbered (in_month (int_div_euclid months (pos 12)) m day)) by_month

pub months_by_parts : (day months : ℤ) (date : CivilDate) (total : ℤ) → date ≡ date_of day → total ≡ (months_up_to date +ℤ months -ℤ pos 1) → numbered (after_january total date.day) ≡ months_after day months
months_by_parts day months date total same e =
    ap (λ x. numbered (after_january x date.day)) e ∙ ap (λ d. numbered (months_later d months)) same

pub years_by_parts : (day years : ℤ) (date : CivilDate) (year : ℤ) → date ≡ date_of day → year ≡ (date.year +ℤ years) → numbered (in_month year date.month date.day) ≡ years_after day years
years_by_parts day years date year same e =
    ap (λ y. numbered (in_month y date.month date.day)) e ∙ ap (λ d. numbered (years_later d years)) same

pub twelve_months : (date : CivilDate) (years : ℤ) → IsInRange 1 12 date.month → months_later date (pos 12 *ℤ years) ≡ years_later date years
twelve_months date years month =
    only_months_later date (pos 12 *ℤ years) (months_later date (pos 12 *ℤ years)) (years_later date years) (is_months_later date (pos 12 *ℤ years))
    (record {
      count = omega (arith, signed_arith);
      month = month;
      day = day_is_kept (date.year +ℤ years) date.month date.day;
    })
