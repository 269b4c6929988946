-- What the operations of the law profile give is in the range of its type.
use Rattle.std.proofs.Common.{◌≡◌, ℕ, zero, suc, ◌+◌, ◌≤◌, ◌<◌, ℤ, pos, negsuc, ◌+ℤ◌, ◌-ℤ◌, int_lt, unsigned_abs, Bool, true, false, not, if◌then◌else◌, Ok, Err, refl, subst, arith}
use Rattle.std.specs.Int.{int_div_euclid, int_rem_euclid}
use Rattle.std.proofs.lemmas.Bool.{lt-ltb}
use Rattle.jiff_core.specs.Calendar.{IsBetween, IsDate, days_from_civil, days_in_month}
use Rattle.jiff_core.proofs.CalendarLemmas.{days_in_month_bounds}
use Rattle.jiff_core.proofs.SignedLemmas.{signed_arith, int_rem_euclid-parts}
use Rattle.common_lemmas.proofs.Bools.{both, not_true}
use Rattle.common_lemmas.proofs.Numbers.{not_below}
use Rattle.fact_values.specs.Days.{IsDay, last_year_begun, number_of, year_of}
use Rattle.fact_values.specs.Range.{IsInRange}
use Rattle.fact_values.specs.declared.fault.ValueFault.TheVariants.{Overflow}
use Rattle.fact_values.proofs.Days.{IsDay-between, IsDay-years}
use Rattle.law_arithmetic.specs.declared.civil_date.CivilDate.{CivilDate}
use Rattle.law_arithmetic.specs.Ages.{age_on, is_earlier_in_year}
use Rattle.law_arithmetic.specs.Dates.{date_of, day_of, is_year, last_month_begun, month_of, number, numbered}
use Rattle.law_arithmetic.specs.Months.{in_month, months_after, months_up_to, years_after}

-- ---- numbers within bounds

pub between-in-range : (z : ℤ) → IsBetween (negsuc 999999) (pos 999999) z → IsInRange z
between-in-range (pos n) h = lt-ltb n 1000000000000000 (omega (arith, signed_arith, h.1))
between-in-range (negsuc n) h = lt-ltb (suc n) 1000000000000000 (omega (arith, signed_arith, h.0))

either_between : (low high : ℤ) (b : Bool) (x y : ℤ) → IsBetween low high x → IsBetween low high y → IsBetween low high (if b then x else y)
either_between low high true x y h k = h
either_between low high false x y h k = k

last_year_between : (k : ℕ) (n : ℤ) → k ≤ 399 → IsBetween (pos 1800) (pos 2199) (last_year_begun k n)
unfolding last_year_begun
last_year_between zero n h = (omega (arith, signed_arith), omega (arith, signed_arith))
last_year_between (suc k) n h =
    either_between (pos 1800) (pos 2199) (int_lt n (number_of (pos (suc k + 1800)) (pos 1) (pos 1))) (last_year_begun k n) (pos (suc k + 1800))
    (last_year_between k n (omega arith)) (omega (arith, signed_arith), omega (arith, signed_arith))

year_between : (n : ℤ) → IsBetween (pos 1800) (pos 2199) (year_of n)
year_between n = last_year_between 399 n (omega arith)

either_month : (b : Bool) (x y : ℕ) → (1 ≤ x) × (x ≤ 12) → (1 ≤ y) × (y ≤ 12) → (1 ≤ (if b then x else y)) × ((if b then x else y) ≤ 12)
either_month true x y h k = h
either_month false x y h k = k

last_month_between : (k : ℕ) (year n : ℤ) → k ≤ 11 → (1 ≤ last_month_begun k year n) × (last_month_begun k year n ≤ 12)
unfolding last_month_begun
last_month_between zero year n h = (omega arith, omega arith)
last_month_between (suc k) year n h =
    either_month (int_lt n (days_from_civil year (suc k + 1) 1)) (last_month_begun k year n) (suc k + 1) (last_month_between k year n (omega arith)) (omega arith, omega arith)

month_between : (n : ℤ) → (1 ≤ month_of n) × (month_of n ≤ 12)
month_between n = last_month_between 11 (year_of n) n (omega arith)

-- ---- days

date_is_day : (year : ℤ) (month day : ℕ) → IsBetween (pos 1800) (pos 2199) year → (1 ≤ month) × (month ≤ 12) → 1 ≤ day → day ≤ days_in_month year month → IsDay (days_from_civil year month day)
date_is_day year month day y m low high =
    let date : IsDate year (pos month) (pos day) = ((omega (arith, signed_arith, y), omega (arith, signed_arith, y)), (omega (arith, signed_arith, m), omega (arith, signed_arith, m)), (omega (arith, signed_arith, low), omega (arith, signed_arith, high))) in
    (IsDay-years year (pos month) (pos day) date).0 y

year_within : (year : ℤ) → is_year year ≡ true → IsBetween (pos 1800) (pos 2199) year
year_within year e =
    let p = both (not (int_lt year (pos 1800))) (not (int_lt (pos 2199) year)) e in
    (not_below _ _ (not_true _ p.0), not_below _ _ (not_true _ p.1))

numbered_by : (date : CivilDate) (b : Bool) → is_year date.year ≡ b → (1 ≤ date.month) × (date.month ≤ 12) → 1 ≤ date.day → date.day ≤ days_in_month date.year date.month
    → (x : ℤ) → (if b then Ok (number date) else Err Overflow) ≡ Ok x → IsDay x
numbered_by date true is month low high x e =
    let same : number date ≡ x = cc in
    subst IsDay same (date_is_day date.year date.month date.day (year_within date.year is) month low high)
numbered_by date false is month low high x e = absurd cc

in_month-is-day : (year : ℤ) (month day : ℕ) → (1 ≤ month) × (month ≤ 12) → 1 ≤ day → (x : ℤ) → numbered (in_month year month day) ≡ Ok x → IsDay x
in_month-is-day year month day m low x e =
    let bounds = days_in_month_bounds year month in
    numbered_by (in_month year month day) (is_year year) refl m (omega (arith, low, bounds)) (omega arith) x e

pub months_after-is-day : (day n x : ℤ) → months_after day n ≡ Ok x → IsDay x
months_after-is-day day n x e =
    let total : ℤ = months_up_to (date_of day) +ℤ n -ℤ pos 1 in
    let parts = int_rem_euclid-parts total 12 (omega arith) in
    in_month-is-day (int_div_euclid total (pos 12)) (unsigned_abs (int_rem_euclid total (pos 12)) + 1) (day_of day) (omega arith, omega (arith, signed_arith, parts)) (omega arith) x e

pub years_after-is-day : (day n x : ℤ) → years_after day n ≡ Ok x → IsDay x
years_after-is-day day n x e = in_month-is-day (year_of day +ℤ n) (month_of day) (day_of day) (month_between day) (omega arith) x e

-- ---- whole numbers

pub month-in-range : (n : ℤ) → IsInRange (pos (month_of n))
month-in-range n = let m = month_between n in lt-ltb (month_of n) 1000000000000000 (omega (arith, m))

pub days_between-in-range : (m n : ℤ) → IsDay m → IsDay n → IsInRange (n -ℤ m)
days_between-in-range m n h k =
    let a = (IsDay-between m).0 h in
    let b = (IsDay-between n).0 k in
    between-in-range (n -ℤ m) (omega (arith, signed_arith, a, b), omega (arith, signed_arith, a, b))

day_size : (z : ℤ) → IsBetween (negsuc 999998) (pos 999998) z → unsigned_abs z + 1 < 1000000000000000
day_size (pos n) h = omega (arith, signed_arith, h.1)
day_size (negsuc n) h = omega (arith, signed_arith, h.0)

pub day-in-range : (n : ℤ) → IsDay n → IsInRange (pos (day_of n))
day-in-range n h =
    let bounds = days_in_month_bounds (year_of n) (month_of n) in
    let first = date_is_day (year_of n) (month_of n) 1 (year_between n) (month_between n) (omega arith) (omega (arith, bounds)) in
    let a = (IsDay-between n).0 h in
    let b = (IsDay-between (days_from_civil (year_of n) (month_of n) 1)).0 first in
    lt-ltb (day_of n) 1000000000000000 (day_size (n -ℤ days_from_civil (year_of n) (month_of n) 1) (omega (arith, signed_arith, a, b), omega (arith, signed_arith, a, b)))

pub age-in-range : (born day : ℤ) → IsInRange (age_on born day)
age-in-range born day =
    let a = year_between born in
    let b = year_between day in
    between-in-range (age_on born day)
    (either_between (negsuc 999999) (pos 999999) (is_earlier_in_year (date_of day) (date_of born)) (year_of day -ℤ year_of born -ℤ pos 1) (year_of day -ℤ year_of born)
    (omega (arith, signed_arith, a, b), omega (arith, signed_arith, a, b)) (omega (arith, signed_arith, a, b), omega (arith, signed_arith, a, b)))
