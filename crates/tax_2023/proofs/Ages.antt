-- Ages by the days of births.
use Rattle.std.proofs.Common.{◌≡◌, ℕ, zero, suc, ◌+◌, ◌-◌, ◌<◌, ◌≤◌, ℤ, pos, ◌+ℤ◌, ◌-ℤ◌, ◌≤ℤ◌, ◌<ℤ◌, int_lt, Bool, true, false, not, if◌then◌else◌, refl, sym, ◌∙◌, subst, arith}
use Rattle.std.specs.Cmp.{int_ranks}
use Rattle.std.specs.Ordering.{MatchOrdering, int_cmp, is_gt, is_lt}
use Rattle.std.specs.declared.cmp.Ordering.{Ordering}
use Rattle.std.specs.declared.cmp.Ordering.TheVariants.{Less, Equal, Greater}
use Rattle.std.proofs.lemmas.Int.{ints, by_lt_z}
use Rattle.common_lemmas.proofs.Numbers.{not_below}
use Rattle.jiff_core.proofs.CalendarLemmas.{days_from_civil-day_count, day_count-later_year}
use Rattle.jiff_core.proofs.SignedLemmas.{signed_arith}
use Rattle.fact_values.specs.Days.{last_year_begun, number_of, year_of}
use Rattle.fact_values.proofs.Days.{is_under}

-- ---- orders and tests

pub isnt_under : (a b : ℤ) → b ≤ℤ a → int_lt a b ≡ false
isnt_under a b h = grind (arith, ints)

pub under_is : (a b : ℤ) → int_lt a b ≡ true → a <ℤ b
under_is a b h = grind (arith, ints)

lt_by : (a b : ℤ) (r : Ordering) → MatchOrdering r (a <ℤ b) (a ≡ b) (b <ℤ a) → is_lt r ≡ int_lt a b
lt_by a b Less h = sym (is_under a b h)
lt_by a b Equal h = sym (isnt_under a b (omega (arith, ints)))
lt_by a b Greater h = sym (isnt_under a b (omega (arith, ints)))

gt_by : (a b : ℤ) (r : Ordering) → MatchOrdering r (a <ℤ b) (a ≡ b) (b <ℤ a) → is_gt r ≡ int_lt b a
gt_by a b Less h = sym (isnt_under b a (omega (arith, ints)))
gt_by a b Equal h = sym (isnt_under b a (omega (arith, ints)))
gt_by a b Greater h = sym (is_under b a h)

pub is_lt-int_lt : (a b : ℤ) → is_lt (int_cmp a b) ≡ int_lt a b
is_lt-int_lt a b = lt_by a b (int_cmp a b) (int_ranks a b)

pub is_gt-int_lt : (a b : ℤ) → is_gt (int_cmp a b) ≡ int_lt b a
is_gt-int_lt a b = gt_by a b (int_cmp a b) (int_ranks a b)

-- ---- years

-- 1 January
abbrev pub first_of : ℕ → ℤ
first_of year = number_of (pos year) (pos 1) (pos 1)

first_days_rise : (year later : ℕ) → year ≤ later → first_of year ≤ℤ first_of later
first_days_rise year later le =
    by_lt_z (pos year) (pos later)
    (λ lt. omega (arith, signed_arith, days_from_civil-day_count, day_count-later_year (pos year) (pos later) (omega (arith, signed_arith)) lt))
    (λ ge. let same : year ≡ later = omega (arith, signed_arith) in rw same (omega (arith, signed_arith)))

no_later : (k : ℕ) (n : ℤ) → last_year_begun k n ≤ℤ pos (k + 1800)
unfolding last_year_begun
no_later zero n = omega (arith, ints)
no_later (suc k) n = either (int_lt n (first_of (suc k + 1800))) (omega (arith, ints, no_later k n)) (omega (arith, ints))
  where
    either : {x y z : ℤ} (b : Bool) → x ≤ℤ z → y ≤ℤ z → (if b then x else y) ≤ℤ z
    either true h k = h
    either false h k = k

-- by years back from k + 1
year_step : (k j : ℕ) (n : ℤ) → j ≤ suc k → (j ≤ k → int_lt (last_year_begun k n) (pos (j + 1800)) ≡ int_lt n (first_of (j + 1800)))
    → (b : Bool) → int_lt n (first_of (suc k + 1800)) ≡ b
    → int_lt (if b then last_year_begun k n else pos (suc k + 1800)) (pos (j + 1800)) ≡ int_lt n (first_of (j + 1800))
year_step k j n high before true e = by_lt_z (pos j) (pos (suc k)) (λ lt. before (omega (arith, ints))) (λ ge. last (omega (arith, ints)))
  where
    last : j ≡ suc k → int_lt (last_year_begun k n) (pos (j + 1800)) ≡ int_lt n (first_of (j + 1800))
    last same = rw (same, e) (is_under (last_year_begun k n) (pos (suc k + 1800)) (omega (arith, ints, no_later k n)))
year_step k j n high before false e =
    let from = not_below (first_of (suc k + 1800)) n e in
    let rise = first_days_rise (j + 1800) (suc k + 1800) (omega arith) in
    isnt_under (pos (suc k + 1800)) (pos (j + 1800)) (omega (arith, ints)) ∙ sym (isnt_under n (first_of (j + 1800)) (omega (arith, ints)))

-- a day's year is below a year exactly where the day is before its 1 January
year_below : (k j : ℕ) (n : ℤ) → 1 ≤ j → j ≤ k → int_lt (last_year_begun k n) (pos (j + 1800)) ≡ int_lt n (first_of (j + 1800))
unfolding last_year_begun
year_below zero j n low high = absurd (omega arith)
year_below (suc k) j n low high = year_step k j n high (year_below k j n low) (int_lt n (first_of (suc k + 1800))) refl

pub year_of-below : (year : ℕ) (n : ℤ) → 1801 ≤ year → year ≤ 2199 → int_lt (year_of n) (pos year) ≡ int_lt n (first_of year)
year_of-below year n low high =
    let same : (year - 1800) + 1800 ≡ year = omega arith in
    subst (λ y. int_lt (year_of n) (pos y) ≡ int_lt n (first_of y)) same (year_below 399 (year - 1800) n (omega arith) (omega arith))

-- ---- ages

young_by : (b first born : ℤ) (y k : ℕ) (p : Bool) → k < y → int_lt b first ≡ p → int_lt born (pos (y - k)) ≡ p → int_lt (first -ℤ pos 1) b ≡ int_lt (pos y -ℤ born) (pos (suc k))
young_by b first born y k true low e f =
    let g = under_is b first e in
    let h = under_is born (pos (y - k)) f in
    isnt_under (first -ℤ pos 1) b (omega (arith, ints)) ∙ sym (isnt_under (pos y -ℤ born) (pos (suc k)) (omega (arith, ints)))
young_by b first born y k false low e f =
    let g = not_below first b e in
    let h = not_below (pos (y - k)) born f in
    is_under (first -ℤ pos 1) b (omega (arith, ints)) ∙ sym (is_under (pos y -ℤ born) (pos (suc k)) (omega (arith, ints)))

-- who was born after the last day of a year is, so many years later, younger than one year more
pub young : (b : ℤ) (y k : ℕ) → k < y → 1801 ≤ y - k → y - k ≤ 2199 → int_lt (first_of (y - k) -ℤ pos 1) b ≡ int_lt (pos y -ℤ year_of b) (pos (suc k))
young b y k less low high = young_by b (first_of (y - k)) (year_of b) y k (int_lt b (first_of (y - k))) less refl (year_of-below (y - k) b low high)

old_by : (b first : ℤ) (p : Bool) → int_lt first b ≡ p → int_lt b (first +ℤ pos 1) ≡ not p
old_by b first true e = let g = under_is first b e in isnt_under b (first +ℤ pos 1) (omega (arith, ints))
old_by b first false e = let g = not_below b first e in is_under b (first +ℤ pos 1) (omega (arith, ints))

-- who was born before the second day of a year was born no later than its first
pub old : (b first : ℤ) → int_lt b (first +ℤ pos 1) ≡ not (int_lt first b)
old b first = old_by b first (int_lt first b) refl
