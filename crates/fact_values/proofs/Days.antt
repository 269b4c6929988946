-- Days by their dates.
use Rattle.std.proofs.Common.{◌≡◌, ◌↔◌, ℕ, zero, suc, ◌+◌, ℤ, pos, negsuc, ◌≤ℤ◌, ◌<ℤ◌, true, false, not, refl, sym, subst, arith, int_lt, unsigned_abs, ap, ◌∙◌}
use Rattle.std.proofs.lemmas.Int.{ints, by_lt_z}
use Rattle.common_lemmas.proofs.Bools.{both, not_true}
use Rattle.common_lemmas.proofs.Numbers.{not_below}
use Rattle.jiff_core.specs.declared.civil.date.Date.{Date}
use Rattle.jiff_core.specs.Calendar.{IsBetween, IsDate, IsCivilDate}
use Rattle.jiff_core.specs.Date.{epoch_day, IsYmd}
use Rattle.jiff_core.proofs.CalendarLemmas.{days_from_civil-day_count, day_count-lt_year, day_count-later_year, day_count-day_of_year}
use Rattle.jiff_core.proofs.DateLemmas.{epoch_day_injective}
use Rattle.jiff_core.proofs.MarchLemmas.{day_count-early}
use Rattle.jiff_core.proofs.SignedLemmas.{signed_arith}
use Rattle.fact_values.specs.Days.{first_day, last_day, IsDay, IsDateOf, number_of, last_year_begun, year_of}

-- a positive number is its size
pos-unsigned_abs : (z : ℤ) → pos 1 ≤ℤ z → pos (unsigned_abs z) ≡ z
pos-unsigned_abs (pos n) h = refl
pos-unsigned_abs (negsuc n) h = absurd (omega (arith, signed_arith))

-- the parts of a date as natural numbers
civil : (year month day : ℤ) → IsDate year month day → IsCivilDate year (unsigned_abs month) (unsigned_abs day)
civil year month day h =
    let m = pos-unsigned_abs month h.1.0 in
    let d = pos-unsigned_abs day h.2.0 in
    (h.0, (omega (arith, signed_arith), omega (arith, signed_arith)), (omega (arith, signed_arith), omega (arith, signed_arith)))

not_under : (a b : ℤ) → a ≤ℤ b → int_lt b a ≡ false
not_under a b h = grind (arith, ints)

pub is_under : (a b : ℤ) → a <ℤ b → int_lt a b ≡ true
is_under a b h = grind (arith, ints)

-- a day in the range lies from the first to the last
pub IsDay-between : (n : ℤ) → IsDay n ↔ IsBetween first_day last_day n
IsDay-between n = (
  λ h. let e = both (not (int_lt n first_day)) (not (int_lt last_day n)) h in (not_below _ _ (not_true _ e.0), not_below _ _ (not_true _ e.1)),
  λ h. rw (not_under first_day n h.0, not_under n last_day h.1) refl,
)

pub number_of-1800 : number_of (pos 1800) (pos 1) (pos 1) ≡ first_day
number_of-1800 =
    omega (arith, signed_arith, days_from_civil-day_count, day_count-early (pos 1800) 11799 1 1 refl (omega arith) (omega arith) (omega arith))

number_of-2200 : number_of (pos 2200) (pos 1) (pos 1) ≡ pos 84006
number_of-2200 =
    omega (arith, signed_arith, days_from_civil-day_count, day_count-early (pos 2200) 12199 1 1 refl (omega arith) (omega arith) (omega arith))

-- the first days of years are in their order
number_of-first : (year later : ℤ) → pos 0 ≤ℤ year → year ≤ℤ later → number_of year (pos 1) (pos 1) ≤ℤ number_of later (pos 1) (pos 1)
number_of-first year later h le =
    by_lt_z year later (λ lt. omega (arith, signed_arith, days_from_civil-day_count, day_count-later_year year later (omega (arith, signed_arith)) lt))
    (λ ge. let same : year ≡ later = omega (arith, signed_arith) in rw same (omega (arith, signed_arith)))

-- a year's dates come before the dates of each later year
number_of-lt_year : (year month day later : ℤ) → IsDate year month day → year <ℤ later → number_of year month day <ℤ number_of later (pos 1) (pos 1)
number_of-lt_year year month day later h lt =
    omega (arith, signed_arith, days_from_civil-day_count, day_count-lt_year year (unsigned_abs month) (unsigned_abs day) later 1 1 (civil year month day h) (omega arith) lt)

-- and not before its own 1 January
number_of-le : (year month day : ℤ) → IsDate year month day → number_of year (pos 1) (pos 1) ≤ℤ number_of year month day
number_of-le year month day h =
    let parts = civil year month day h in
    omega (arith, signed_arith, days_from_civil-day_count, day_count-day_of_year year (unsigned_abs month) (unsigned_abs day) (omega arith), day_count-day_of_year year 1 1 (omega arith))

-- a date of the calendar is in the range by its year exactly where it is by its number
pub IsDay-years : (year month day : ℤ) → IsDate year month day → IsBetween (pos 1800) (pos 2199) year ↔ IsDay (number_of year month day)
IsDay-years year month day h =
    let between = IsDay-between (number_of year month day) in
    let own = number_of-le year month day h in
    let low = number_of-1800 in
    let high = number_of-2200 in (
      λ years. between.1 (
        omega (arith, signed_arith, number_of-first (pos 1800) year (omega (arith, signed_arith)) years.0),
        omega (arith, signed_arith, number_of-lt_year year month day (pos 2200) h (omega (arith, signed_arith))),
      ),
      λ range. let b = between.0 range in (
        by_lt_z year (pos 1800) (λ lt. absurd (omega (arith, signed_arith, number_of-lt_year year month day (pos 1800) h lt))) (λ ge. ge),
        by_lt_z year (pos 2200) (λ lt. omega (arith, signed_arith))
            (λ ge. absurd (omega (arith, signed_arith, number_of-first (pos 2200) year (omega (arith, signed_arith)) ge))),
      ),
    )

-- so the date of a day in the range has such a year
pub IsDateOf-epoch_day : (d : Date) (n : ℤ) → IsDay n → epoch_day d ≡ n → IsDateOf n d.year (pos d.month) (pos d.day)
IsDateOf-epoch_day d n range e =
    let month = d.month_in in
    let day = d.day_in in
    let date : IsDate d.year (pos d.month) (pos d.day) = (d.year_in, (omega (arith, signed_arith), omega (arith, signed_arith)), (omega (arith, signed_arith), omega (arith, signed_arith))) in
    ((date, (IsDay-years d.year (pos d.month) (pos d.day) date).1 (subst IsDay (sym e) range)), e)

-- the date with these parts
date_of : (year month day : ℤ) → IsDate year month day → Date
date_of year month day h =
    let parts = civil year month day h in
    record { year = year; month = unsigned_abs month; day = unsigned_abs day; year_in = parts.0; month_in = parts.1; day_in = parts.2 }

-- a day has one date
pub IsDateOf-only : (n year month day year2 month2 day2 : ℤ) → IsDateOf n year month day → IsDateOf n year2 month2 day2 → (year ≡ year2) × (month ≡ month2) × (day ≡ day2)
unfolding date_of
IsDateOf-only n year month day year2 month2 day2 h k =
    let a : IsDate year month day = h.0.0 in
    let b : IsDate year2 month2 day2 = k.0.0 in
    let same = epoch_day_injective (date_of year month day a) (date_of year2 month2 day2 b) (h.1 ∙ sym k.1) in (
      same.0,
      sym (pos-unsigned_abs month a.1.0) ∙ (ap pos same.1 ∙ pos-unsigned_abs month2 b.1.0),
      sym (pos-unsigned_abs day a.2.0) ∙ (ap pos same.2 ∙ pos-unsigned_abs day2 b.2.0),
    )

-- the years from 1800 on are sought down to the date's
last_year_begun-date : (k : ℕ) (n year month day : ℤ) → IsDateOf n year month day → year ≤ℤ pos (k + 1800) → last_year_begun k n ≡ year
unfolding last_year_begun
last_year_begun-date zero n year month day h le = omega (arith, signed_arith, h.0.1.0)
last_year_begun-date (suc k) n year month day h le =
    by_lt_z year (pos (suc k + 1800))
    (λ lt.
    let before = number_of-lt_year year month day (pos (suc k + 1800)) h.0.0 lt in
    let test : int_lt n (number_of (pos (suc k + 1800)) (pos 1) (pos 1)) ≡ true = is_under _ _ (subst (λ z. z <ℤ number_of (pos (suc k + 1800)) (pos 1) (pos 1)) h.1 before) in
    rw test (last_year_begun-date k n year month day h (omega (arith, signed_arith))))
    (λ ge.
    let same : pos (suc k + 1800) ≡ year = omega (arith, signed_arith) in
    let from = number_of-le year month day h.0.0 in
    let test : int_lt n (number_of year (pos 1) (pos 1)) ≡ false = not_under _ _ (subst (λ z. number_of year (pos 1) (pos 1) ≤ℤ z) h.1 from) in
    rw (same, test) refl)

-- the year of a day is the year of its date
pub year_of-date : (n year month day : ℤ) → IsDateOf n year month day → year_of n ≡ year
year_of-date n year month day h =
    last_year_begun-date 399 n year month day h (omega (arith, signed_arith, h.0.1.1))

-- the day number of a date is that of its parts
pub number_of-parts : (d : Date) (year month day : ℤ) → IsYmd year month day d → number_of year month day ≡ epoch_day d
number_of-parts d year month day e = rw (← e.0, ← e.1, ← e.2) refl
