-- Dates, their numbers, and the date of each day.
use Rattle.std.proofs.Common.{◌≡◌, ◌↔◌, ◌⊎◌, inl, inr, ℕ, zero, suc, ◌+◌, ◌<◌, ◌≤◌, ℤ, pos, ◌-ℤ◌, ◌+ℤ◌, ◌≤ℤ◌, ◌<ℤ◌, int_lt, unsigned_abs, Bool, true, false, ◌&&◌, if◌then◌else◌, leb, List, take, slice_range, Option, Some, None, option_and_then, IsSome, IfSome, refl, sym, subst, ap, ◌∙◌, arith}
use Rattle.std.proofs.lemmas.Bool.{and_parts, and_from, leb-true, leb-false, le-leb}
use Rattle.std.proofs.lemmas.Int.{ints}
use Rattle.common_lemmas.proofs.Numbers.{not_below}
use Rattle.jiff_core.specs.Calendar.{day_count, days_from_civil, days_in_month}
use Rattle.jiff_core.specs.March.{march_days, march_months}
use Rattle.jiff_core.proofs.CalendarLemmas.{day_count-epoch, days_from_civil-day_count, day_count-next_month, day_count-day_of_year, days_of_months_all, day_count-next_year, day_count-day}
use Rattle.jiff_core.proofs.MarchLemmas.{day_count-early, day_count-late}
use Rattle.jiff_core.proofs.SignedLemmas.{one_part, signed_arith}
use Rattle.fact_values.specs.Days.{last_day, IsDay, IsDateInRange, IsDateOf, number_of}
use Rattle.fact_values.proofs.Days.{IsDay-between, IsDay-years, IsDateOf-only}
use Rattle.value_text.specs.Digits.{number_at}
use Rattle.value_text.specs.Dates.{is_date, days_before, date_number, day_of_date, date_in, last_begun, year_of_day, month_of_day, day_of_month, printed_date, printed_day}

-- ---- the number of a date

counted_by : (b : Bool) (y m d : ℕ) → leb m 2 ≡ b → 1 ≤ m → m ≤ 12 → 1 ≤ d
    → (if b then march_days (y + 9999) + march_months (m + 12) + d + 59 else march_days (y + 10000) + march_months m + d + 59) ≡ day_count (pos y) m d
counted_by true y m d e low high some =
    let early = leb-true m 2 e in
    let at : pos y +ℤ pos 10000 ≡ pos (suc (y + 9999)) = ap pos (omega arith) in
    sym (day_count-early (pos y) (y + 9999) m d at low early some)
counted_by false y m d e low high some =
    let late = leb-false m 2 e in
    sym (day_count-late (pos y) (y + 10000) m d refl (omega arith) high some)

-- the days before a date, counted by years that begin in March
days_before-day_count : (y m d : ℕ) → 1 ≤ m → m ≤ 12 → 1 ≤ d → days_before y m d ≡ day_count (pos y) m d
days_before-day_count y m d low high some = counted_by (leb m 2) y m d refl low high some

pub date_number-number_of : (y m d : ℕ) → 1 ≤ m → m ≤ 12 → 1 ≤ d → date_number y m d ≡ number_of (pos y) (pos m) (pos d)
unfolding days_from_civil
date_number-number_of y m d low high some =
    ap (λ n. pos n -ℤ pos 4371953) (days_before-day_count y m d low high some) ∙ ap (λ n. pos (day_count (pos y) m d) -ℤ pos n) (sym day_count-epoch)

-- ---- dates of the calendar

pub is_date-IsDateInRange : (y m d : ℕ) → (is_date y m d ≡ true) ↔ IsDateInRange (pos y) (pos m) (pos d)
is_date-IsDateInRange y m d = (
  λ h. let parts = and_parts (leb 1800 y && leb y 2199) ((leb 1 m && leb m 12) && (leb 1 d && leb d (days_in_month (pos y) m))) h in
      let years = and_parts (leb 1800 y) (leb y 2199) parts.0 in
      let rest = and_parts (leb 1 m && leb m 12) (leb 1 d && leb d (days_in_month (pos y) m)) parts.1 in
      let months = and_parts (leb 1 m) (leb m 12) rest.0 in
      let days = and_parts (leb 1 d) (leb d (days_in_month (pos y) m)) rest.1 in
      let y0 = leb-true 1800 y years.0 in
      let y1 = leb-true y 2199 years.1 in
      let m0 = leb-true 1 m months.0 in
      let m1 = leb-true m 12 months.1 in
      let d0 = leb-true 1 d days.0 in
      let d1 = leb-true d (days_in_month (pos y) m) days.1 in
      (((omega (arith, signed_arith), omega (arith, signed_arith)), (omega (arith, signed_arith), omega (arith, signed_arith)), (omega (arith, signed_arith), omega (arith, signed_arith))), (omega (arith, signed_arith), omega (arith, signed_arith))),
  λ h. let y0 = h.1.0 in
      let y1 = h.1.1 in
      let m0 = h.0.1.0 in
      let m1 = h.0.1.1 in
      let d0 = h.0.2.0 in
      let d1 = h.0.2.1 in
      and_from (leb 1800 y && leb y 2199) ((leb 1 m && leb m 12) && (leb 1 d && leb d (days_in_month (pos y) m)))
      (and_from (leb 1800 y) (leb y 2199) (le-leb 1800 y (omega (arith, signed_arith))) (le-leb y 2199 (omega (arith, signed_arith))))
      (and_from (leb 1 m && leb m 12) (leb 1 d && leb d (days_in_month (pos y) m))
      (and_from (leb 1 m) (leb m 12) (le-leb 1 m (omega (arith, signed_arith))) (le-leb m 12 (omega (arith, signed_arith))))
      (and_from (leb 1 d) (leb d (days_in_month (pos y) m)) (le-leb 1 d (omega (arith, signed_arith))) (le-leb d (days_in_month (pos y) m) (omega (arith, signed_arith))))),
)

-- the day that a constructor gives for a date is the date's
day_by : (b : Bool) (r : Option ℤ) (y m d : ℕ) → is_date y m d ≡ b → (IsSome r ↔ IsDateInRange (pos y) (pos m) (pos d)) → IfSome r (λ n. n ≡ number_of (pos y) (pos m) (pos d)) → r ≡ (if b then Some (date_number y m d) else None)
day_by true None y m d e accepted value =
    let some = accepted.1 ((is_date-IsDateInRange y m d).0 e) in
    absurd (cc)
day_by true (Some n) y m d e accepted value =
    let range = (is_date-IsDateInRange y m d).0 e in
    let m0 = range.0.1.0 in
    let m1 = range.0.1.1 in
    let d0 = range.0.2.0 in
    ap Some (value ∙ sym (date_number-number_of y m d (omega (arith, signed_arith)) (omega (arith, signed_arith)) (omega (arith, signed_arith))))
day_by false None y m d e accepted value = refl
day_by false (Some n) y m d e accepted value =
    let yes = (is_date-IsDateInRange y m d).1 (accepted.0 refl) in
    absurd (cc)

-- what the constructor says of a date
abbrev pub CountsDay : Option ℤ → ℤ → ℤ → ℤ → Type 0
CountsDay r y m d = (IsSome r ↔ IsDateInRange y m d) × IfSome r (λ n. n ≡ number_of y m d)

pub day_of_date-counted : (r : Option ℤ) (y m d : ℕ) (a b c : ℤ) → a ≡ pos y → b ≡ pos m → c ≡ pos d → CountsDay r a b c → r ≡ day_of_date y m d
day_of_date-counted r y m d a b c ea eb ec counted =
    let same : CountsDay r (pos y) (pos m) (pos d) = subst (λ z. CountsDay r (pos y) (pos m) z) ec (subst (λ z. CountsDay r (pos y) z c) eb (subst (λ z. CountsDay r z b c) ea counted)) in
    day_by (is_date y m d) r y m d refl same.0 same.1

-- the three numbers of a date that was read
pub date_in-from : (text : List ℕ) (y m d : ℕ) → Some y ≡ number_at 4 4 (take 4 text) → Some m ≡ number_at 2 2 (slice_range text 5 7) → Some d ≡ number_at 2 2 (slice_range text 8 10) → day_of_date y m d ≡ date_in text
date_in-from text y m d ey em ed =
    let made : Option ℕ → Option ℕ → Option ℕ → Option ℤ = λ oy om od. option_and_then (λ a. option_and_then (λ b. option_and_then (λ c. day_of_date a b c) od) om) oy in
    ap (λ o. made o (Some m) (Some d)) ey
    ∙ ap (λ o. made (number_at 4 4 (take 4 text)) o (Some d)) em
    ∙ ap (λ o. made (number_at 4 4 (take 4 text)) (number_at 2 2 (slice_range text 5 7)) o) ed

-- ---- the date of a day

-- j is the last of 0 to k whose start isn't after n
record IsLastBegun (start : ℕ → ℤ) (k : ℕ) (n : ℤ) (j : ℕ) : Type 0 where
  within : j ≤ k
  begun : start j ≤ℤ n
  next : (j ≡ k) ⊎ ((j < k) × (n <ℤ start (suc j)))

later_if : (a n : ℤ) → int_lt n a ≡ true → n <ℤ a
later_if a n h = grind (arith, ints)

one_more : (start : ℕ → ℤ) (k : ℕ) (n : ℤ) (b : Bool) (j : ℕ) → int_lt n (start (suc k)) ≡ b → IsLastBegun start k n j → IsLastBegun start (suc k) n (if b then j else suc k)
one_more start k n true j e h = record {
  within = omega (arith, h.within);
  begun = h.begun;
  next = elim (h.next) [
    | inl same ↦ inr (omega (arith, same), subst (λ i. n <ℤ start (suc i)) (sym same) (later_if (start (suc k)) n e))
    | inr less ↦ inr (omega (arith, less.0), less.1)
  ];
}
one_more start k n false j e h = record { within = omega arith; begun = not_below (start (suc k)) n e; next = inl refl }

last_begun-is : (start : ℕ → ℤ) (k : ℕ) (n : ℤ) → start 0 ≤ℤ n → IsLastBegun start k n (last_begun start k n)
last_begun-is start zero n low = record { within = omega arith; begun = low; next = inl refl }
last_begun-is start (suc k) n low = one_more start k n (int_lt n (start (suc k))) (last_begun start k n) refl (last_begun-is start k n low)

-- a day lies in its year
record IsInYear (n : ℤ) (y : ℕ) : Type 0 where
  first : 1800 ≤ y
  last : y ≤ 2199
  begun : number_of (pos y) (pos 1) (pos 1) ≤ℤ n
  next : n <ℤ number_of (pos (suc y)) (pos 1) (pos 1)

in_year : (n : ℤ) (j : ℕ) → n ≤ℤ last_day → IsLastBegun (λ k. date_number (1800 + k) 1 1) 399 n j → IsInYear n (1800 + j)
in_year n j high h = record {
  first = omega arith;
  last = omega (arith, h.within);
  begun = subst (λ z. z ≤ℤ n) (date_number-number_of (1800 + j) 1 1 (omega arith) (omega arith) (omega arith)) h.begun;
  next = subst (λ z. n <ℤ z) (date_number-number_of (suc (1800 + j)) 1 1 (omega arith) (omega arith) (omega arith)) (elim (h.next) [
    | inl same ↦ rw same (omega (arith, signed_arith))
    | inr less ↦ subst (λ y. n <ℤ date_number y 1 1) (omega arith) less.1
  ]);
}

-- and in its month
record IsInMonth (n : ℤ) (y m : ℕ) : Type 0 where
  first : 1 ≤ m
  last : m ≤ 12
  begun : number_of (pos y) (pos m) (pos 1) ≤ℤ n
  next : n <ℤ (number_of (pos y) (pos m) (pos 1) +ℤ pos (days_in_month (pos y) m))

more_than_one : (j : ℕ) → 1 + suc j ≡ 1 + j + 1
more_than_one j = omega arith

in_month : (n : ℤ) (y j : ℕ) → IsInYear n y → IsLastBegun (λ k. date_number y (1 + k) 1) 11 n j → IsInMonth n y (1 + j)
in_month n y j year h = record {
  first = omega arith;
  last = omega (arith, h.within);
  begun = subst (λ z. z ≤ℤ n) (date_number-number_of y (1 + j) 1 (omega arith) (omega (arith, h.within)) (omega arith)) h.begun;
  next = elim (h.next) [
    | inl same ↦ rw same (omega (arith, signed_arith, year.next, days_from_civil-day_count, day_count-next_month (pos y) 12 (omega arith), day_count-day_of_year (pos y) 13 1 (omega arith), days_of_months_all (pos y), day_count-next_year (pos y) (pos (suc y)) (omega (arith, signed_arith)) (omega (arith, signed_arith))))
    | inr less ↦
        let after : date_number y (1 + suc j) 1 ≡ number_of (pos y) (pos (1 + j + 1)) (pos 1) = ap (λ m. date_number y m 1) (more_than_one j) ∙ date_number-number_of y (1 + j + 1) 1 (omega arith) (omega (arith, less.0)) (omega arith) in
        let before : n <ℤ number_of (pos y) (pos (1 + j + 1)) (pos 1) = subst (λ z. n <ℤ z) after less.1 in
        omega (arith, signed_arith, before, days_from_civil-day_count, day_count-next_month (pos y) (1 + j) (omega arith))
  ];
}

gap_is : (a n : ℤ) → a ≤ℤ n → n ≡ (a +ℤ pos (unsigned_abs (n -ℤ a)))
gap_is a n h = omega (arith, signed_arith, h, one_part (n -ℤ a))

-- so the three numbers make a date, which is the day's
dated : (n : ℤ) (y m : ℕ) → IsInYear n y → IsInMonth n y m → IsDateOf n (pos y) (pos m) (pos (1 + unsigned_abs (n -ℤ date_number y m 1)))
dated n y m year month =
    let first = date_number-number_of y m 1 month.first month.last (omega arith) in
    let gap : ℕ = unsigned_abs (n -ℤ number_of (pos y) (pos m) (pos 1)) in
    let far : n ≡ (number_of (pos y) (pos m) (pos 1) +ℤ pos gap) = gap_is (number_of (pos y) (pos m) (pos 1)) n month.begun in
    let few : gap < days_in_month (pos y) m = omega (arith, signed_arith, month.next, far) in
    let at : number_of (pos y) (pos m) (pos (1 + gap)) ≡ n = omega (arith, signed_arith, far, days_from_civil-day_count, day_count-day (pos y) m 1 (1 + gap) (omega arith) (omega arith)) in
    let date : IsDateOf n (pos y) (pos m) (pos (1 + gap)) = ((((omega (arith, signed_arith, year.first), omega (arith, signed_arith, year.last)), (omega (arith, signed_arith, month.first), omega (arith, signed_arith, month.last)), (omega (arith, signed_arith), omega (arith, signed_arith, few))), (omega (arith, signed_arith, year.first), omega (arith, signed_arith, year.last))), at) in
    subst (λ z. IsDateOf n (pos y) (pos m) (pos (1 + unsigned_abs (n -ℤ z)))) (sym first) date

pub date_of_day : (n : ℤ) → IsDay n → IsDateOf n (pos (year_of_day n)) (pos (month_of_day n)) (pos (day_of_month n))
date_of_day n range =
    let between = (IsDay-between n).0 range in
    let year = in_year n (last_begun (λ k. date_number (1800 + k) 1 1) 399 n) between.1 (last_begun-is (λ k. date_number (1800 + k) 1 1) 399 n between.0) in
    let january : date_number (year_of_day n) 1 1 ≤ℤ n = subst (λ z. z ≤ℤ n) (sym (date_number-number_of (year_of_day n) 1 1 (omega arith) (omega arith) (omega arith))) year.begun in
    let month = in_month n (year_of_day n) (last_begun (λ k. date_number (year_of_day n) (1 + k) 1) 11 n) year (last_begun-is (λ k. date_number (year_of_day n) (1 + k) 1) 11 n january) in
    dated n (year_of_day n) (month_of_day n) year month

-- the date that three calls give is that one, so it is what is printed
pub printed_of_parts : (n : ℤ) (y m1 d1 y2 m d2 y3 m3 d : ℤ) → IsDateOf n y m1 d1 → IsDateOf n y2 m d2 → IsDateOf n y3 m3 d → printed_date (unsigned_abs y) (unsigned_abs m) (unsigned_abs d) ≡ printed_day n
printed_of_parts n y m1 d1 y2 m d2 y3 m3 d hy hm hd =
    let range : IsDay n = subst IsDay hy.1 ((IsDay-years y m1 d1 hy.0.0).0 hy.0.1) in
    let own = date_of_day n range in
    let year = (IsDateOf-only n y m1 d1 (pos (year_of_day n)) (pos (month_of_day n)) (pos (day_of_month n)) hy own).0 in
    let month = (IsDateOf-only n y2 m d2 (pos (year_of_day n)) (pos (month_of_day n)) (pos (day_of_month n)) hm own).1 in
    let day = (IsDateOf-only n y3 m3 d (pos (year_of_day n)) (pos (month_of_day n)) (pos (day_of_month n)) hd own).2 in
    ap (λ z. printed_date (unsigned_abs z) (unsigned_abs m) (unsigned_abs d)) year
    ∙ ap (λ z. printed_date (year_of_day n) (unsigned_abs z) (unsigned_abs d)) month
    ∙ ap (λ z. printed_date (year_of_day n) (month_of_day n) (unsigned_abs z)) day
