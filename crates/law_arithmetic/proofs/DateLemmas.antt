-- A day's date is the one that the definitions name.
use Rattle.std.proofs.Common.{◌≡◌, ℕ, zero, suc, ◌+◌, ◌≤◌, ◌<◌, ℤ, pos, ◌-ℤ◌, ◌≤ℤ◌, ◌<ℤ◌, true, false, refl, sym, subst, arith, int_lt, ap, ◌∙◌}
use Rattle.std.proofs.lemmas.Int.{ints, by_lt_z}
use Rattle.jiff_core.specs.Calendar.{IsCivilDate, days_from_civil}
use Rattle.jiff_core.proofs.CalendarLemmas.{days_from_civil-day_count, day_count-lt_year, day_count-lt_month}
use Rattle.jiff_core.proofs.DateLemmas.{days_from_civil-day}
use Rattle.jiff_core.proofs.SignedLemmas.{one_part, signed_arith}
use Rattle.fact_values.proofs.Days.{is_under, year_of-date}
use Rattle.law_arithmetic.specs.declared.civil_date.CivilDate.{CivilDate}
use Rattle.law_arithmetic.specs.Dates.{HasDate, last_month_begun, month_of, day_of, date_of}

not_under : (a b : ℤ) → a ≤ℤ b → int_lt b a ≡ false
not_under a b h = grind (arith, ints)

-- the parts of a day's date
pub civil : (n : ℤ) (date : CivilDate) → HasDate n date → IsCivilDate date.year date.month date.day
civil n date h =
    let month = h.0.0.1 in
    let day = h.0.0.2 in
    (h.0.0.0, (omega (arith, signed_arith), omega (arith, signed_arith)), (omega (arith, signed_arith), omega (arith, signed_arith)))

-- ---- the order of days by their dates

pub lt_year : (year : ℤ) (month day : ℕ) (year2 : ℤ) (month2 day2 : ℕ) → IsCivilDate year month day → 1 ≤ day2 → year <ℤ year2 → days_from_civil year month day <ℤ days_from_civil year2 month2 day2
lt_year year month day year2 month2 day2 h first lt =
    omega (arith, signed_arith, days_from_civil-day_count, day_count-lt_year year month day year2 month2 day2 h first lt)

pub lt_month : (year : ℤ) (month day month2 day2 : ℕ) → IsCivilDate year month day → 1 ≤ day2 → month < month2 → days_from_civil year month day <ℤ days_from_civil year month2 day2
lt_month year month day month2 day2 h first lt =
    omega (arith, signed_arith, days_from_civil-day_count, day_count-lt_month year month day month2 day2 h first lt)

pub le_day : (year : ℤ) (month day day2 : ℕ) → 1 ≤ day → day ≤ day2 → days_from_civil year month day ≤ℤ days_from_civil year month day2
le_day year month day day2 h le =
    omega (arith, signed_arith, days_from_civil-day year month day day2 h (omega arith))

pub lt_day : (year : ℤ) (month day day2 : ℕ) → 1 ≤ day → day < day2 → days_from_civil year month day <ℤ days_from_civil year month day2
lt_day year month day day2 h lt =
    omega (arith, signed_arith, days_from_civil-day year month day day2 h (omega arith))

-- ---- the month, sought down from December, and the day in it

last_month_begun-date : (k : ℕ) (n year : ℤ) (month day : ℕ) → IsCivilDate year month day → days_from_civil year month day ≡ n → month ≤ k + 1 → last_month_begun k year n ≡ month
unfolding last_month_begun
last_month_begun-date zero n year month day h e le = omega (arith, h.1.0)
last_month_begun-date (suc k) n year month day h e le =
    by_lt_z (pos month) (pos (suc k + 1))
    (λ lt.
    let before = lt_month year month day (suc k + 1) 1 h (omega arith) (omega (arith, signed_arith, lt)) in
    let test : int_lt n (days_from_civil year (suc k + 1) 1) ≡ true = is_under _ _ (subst (λ (z : ℤ). z <ℤ days_from_civil year (suc k + 1) 1) e before) in
    rw test (last_month_begun-date k n year month day h e (omega (arith, signed_arith, lt))))
    (λ ge.
    let same : suc k + 1 ≡ month = omega (arith, signed_arith, ge) in
    let from = le_day year month 1 day (omega arith) h.2.0 in
    let test : int_lt n (days_from_civil year month 1) ≡ false = not_under _ _ (subst (λ (z : ℤ). days_from_civil year month 1 ≤ℤ z) e from) in
    rw (same, test) refl)

pub month_of-date : (n : ℤ) (date : CivilDate) → HasDate n date → month_of n ≡ date.month
month_of-date n date h =
    let year = year_of-date n _ _ _ h in
    let parts = civil n date h in
    rw year (last_month_begun-date 11 n date.year date.month date.day parts h.1 (omega (arith, parts.1.1)))

pub day_of-date : (n : ℤ) (date : CivilDate) → HasDate n date → day_of n ≡ date.day
day_of-date n date h =
    let year = year_of-date n _ _ _ h in
    let month = month_of-date n date h in
    let parts = civil n date h in
    let first = days_from_civil-day date.year date.month date.day 1 parts.2.0 (omega arith) in
    rw (month, year) (omega (arith, signed_arith, first, h.1, one_part (n -ℤ days_from_civil date.year date.month 1)))

-- two dates are one by their parts
pub same_date : (a b : CivilDate) → a.year ≡ b.year → a.month ≡ b.month → a.day ≡ b.day → a ≡ b
same_date a b year month day =
    let over : ℤ → ℕ → ℕ → CivilDate = λ y m d. record { year = y; month = m; day = d } in
    ap (λ y. over y a.month a.day) year ∙ (ap (λ m. over b.year m a.day) month ∙ ap (λ d. over b.year b.month d) day)

pub date_of-date : (n : ℤ) (date : CivilDate) → HasDate n date → date_of n ≡ date
date_of-date n date h =
    same_date (date_of n) date (year_of-date n _ _ _ h) (month_of-date n date h) (day_of-date n date h)

pub has_own_date : (n : ℤ) (date : CivilDate) → HasDate n date → HasDate n (date_of n)
has_own_date n date h = subst (λ (d : CivilDate). HasDate n d) (sym (date_of-date n date h)) h
