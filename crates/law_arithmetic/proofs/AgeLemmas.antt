-- The years completed by month and day are the age, and no other number is.
use Rattle.std.proofs.Common.{◌≡◌, ℕ, ◌≤◌, ◌<◌, ℤ, pos, ◌+ℤ◌, ◌-ℤ◌, ◌≤ℤ◌, ◌<ℤ◌, ◌⊎◌, inl, inr, Bool, true, false, if◌then◌else◌, nat_le, refl, sym, subst, ap, ◌∙◌, arith}
use Rattle.std.proofs.lemmas.Bool.{leb-false, leb-true}
use Rattle.std.proofs.lemmas.Bool.Decides.{nat_tests}
use Rattle.std.proofs.lemmas.Int.{by_lt_z}
use Rattle.jiff_core.specs.Calendar.{IsYear, IsCivilDate, days_from_civil, days_in_month}
use Rattle.jiff_core.proofs.CalendarLemmas.{days_in_month_bounds}
use Rattle.jiff_core.proofs.SignedLemmas.{signed_arith}
use Rattle.law_arithmetic.specs.declared.civil_date.CivilDate.{CivilDate}
use Rattle.law_arithmetic.specs.Ages.{IsAge, age_on, birthday_in, is_earlier_in_year, years_completed}
use Rattle.law_arithmetic.specs.Dates.{HasDate, date_of}
use Rattle.law_arithmetic.proofs.DateLemmas.{civil, has_own_date, lt_year, lt_month, le_day, lt_day}

chosen : (P : ℤ → Type 0) (b : Bool) (x y : ℤ) → (b ≡ true → P x) → (b ≡ false → P y) → P (if b then x else y)
chosen P true x y f g = f refl
chosen P false x y f g = g refl

-- a birthday is on its date, or on 1 March where the year lacks it
by_birthday : (P : ℤ → Type 0) (year : ℤ) (born : CivilDate) → (born.day ≤ days_in_month year born.month → P (days_from_civil year born.month born.day)) → (days_in_month year born.month < born.day → P (days_from_civil year 3 1)) → P (birthday_in year born)
by_birthday P year born f g =
    chosen P (nat_le born.day (days_in_month year born.month)) _ _ (λ e. f (leb-true _ _ e)) (λ e. g (leb-false _ _ e))

-- only 29 February is lacking
leap_day : (year year2 : ℤ) (month day : ℕ) → day ≤ days_in_month year month → days_in_month year2 month < day → month ≡ 2
leap_day year year2 month day h k = grind arith

march : (year : ℤ) → IsYear year → IsCivilDate year 3 1
march year h = (h, (omega arith, omega arith), (omega arith, omega (arith, days_in_month_bounds year 3)))

-- a birthday is before each day of a later year
before_later_year : (year year2 : ℤ) (month2 day2 : ℕ) (born : CivilDate) → IsYear year → IsCivilDate born.year born.month born.day → 1 ≤ day2 → year <ℤ year2 → birthday_in year born <ℤ days_from_civil year2 month2 day2
before_later_year year year2 month2 day2 born h parts first lt =
    by_birthday (λ z. z <ℤ days_from_civil year2 month2 day2) year born
    (λ le. lt_year year born.month born.day year2 month2 day2 (h, parts.1, (parts.2.0, le)) first lt)
    (λ lacks. lt_year year 3 1 year2 month2 day2 (march year h) first lt)

-- and after each day of an earlier one
after_earlier_year : (year : ℤ) (month day : ℕ) (year2 : ℤ) (born : CivilDate) → IsCivilDate year month day → IsCivilDate born.year born.month born.day → year <ℤ year2 → days_from_civil year month day <ℤ birthday_in year2 born
after_earlier_year year month day year2 born h parts lt =
    by_birthday (λ z. days_from_civil year month day <ℤ z) year2 born
    (λ le. lt_year year month day year2 born.month born.day h parts.2.0 lt)
    (λ lacks. lt_year year month day year2 3 1 h (omega arith) lt)

birthdays_rise : (year year2 : ℤ) (born : CivilDate) → IsYear year → IsCivilDate born.year born.month born.day → year <ℤ year2 → birthday_in year born <ℤ birthday_in year2 born
birthdays_rise year year2 born h parts lt =
    by_birthday (λ z. birthday_in year born <ℤ z) year2 born
    (λ le. before_later_year year year2 born.month born.day born h parts parts.2.0 lt)
    (λ lacks. before_later_year year year2 3 1 born h parts (omega arith) lt)

-- ---- before the birthday of the year, and from it on

earlier : (date born : CivilDate) → is_earlier_in_year date born ≡ true → (date.month < born.month) ⊎ ((date.month ≡ born.month) × (date.day < born.day))
earlier date born e = grind (arith, nat_tests)

not_earlier : (date born : CivilDate) → is_earlier_in_year date born ≡ false → (born.month < date.month) ⊎ ((born.month ≡ date.month) × (born.day ≤ date.day))
not_earlier date born e = grind (arith, nat_tests)

birthday_to_come : (date born : CivilDate) → IsCivilDate date.year date.month date.day → IsCivilDate born.year born.month born.day → (date.month < born.month) ⊎ ((date.month ≡ born.month) × (date.day < born.day)) → days_from_civil date.year date.month date.day <ℤ birthday_in date.year born
birthday_to_come date born h parts (inl lt) =
    by_birthday (λ z. days_from_civil date.year date.month date.day <ℤ z) date.year born
    (λ le. lt_month date.year date.month date.day born.month born.day h parts.2.0 lt)
    (λ lacks. let two = leap_day born.year date.year born.month born.day parts.2.1 lacks in lt_month date.year date.month date.day 3 1 h (omega arith) (omega arith))
birthday_to_come date born h parts (inr same) =
    by_birthday (λ z. days_from_civil date.year date.month date.day <ℤ z) date.year born
    (λ le. subst (λ (m : ℕ). days_from_civil date.year date.month date.day <ℤ days_from_civil date.year m born.day) same.0 (lt_day date.year date.month date.day born.day h.2.0 same.1))
    (λ lacks. let two = leap_day born.year date.year born.month born.day parts.2.1 lacks in lt_month date.year date.month date.day 3 1 h (omega arith) (omega (arith, same.0, two)))

weaker : (a b : ℤ) → a <ℤ b → a ≤ℤ b
weaker a b lt = omega (arith, signed_arith, lt)

from_march : (date : CivilDate) → IsYear date.year → IsCivilDate date.year date.month date.day → 2 < date.month → days_from_civil date.year 3 1 ≤ℤ days_from_civil date.year date.month date.day
from_march date year h late =
    by_lt_z (pos 3) (pos date.month)
    (λ lt. weaker _ _ (lt_month date.year 3 1 date.month date.day (march date.year year) h.2.0 (omega (arith, signed_arith, lt))))
    (λ ge. let three : 3 ≡ date.month = omega (arith, signed_arith, ge, late) in
    subst (λ (m : ℕ). days_from_civil date.year 3 1 ≤ℤ days_from_civil date.year m date.day) three (le_day date.year 3 1 date.day (omega arith) h.2.0))

birthday_has_come : (date born : CivilDate) → IsCivilDate date.year date.month date.day → IsCivilDate born.year born.month born.day → (born.month < date.month) ⊎ ((born.month ≡ date.month) × (born.day ≤ date.day)) → birthday_in date.year born ≤ℤ days_from_civil date.year date.month date.day
birthday_has_come date born h parts (inl lt) =
    by_birthday (λ z. z ≤ℤ days_from_civil date.year date.month date.day) date.year born
    (λ le. weaker _ _ (lt_month date.year born.month born.day date.month date.day (h.0, parts.1, (parts.2.0, le)) h.2.0 lt))
    (λ lacks. let two = leap_day born.year date.year born.month born.day parts.2.1 lacks in from_march date h.0 h (omega (arith, two, lt)))
birthday_has_come date born h parts (inr same) =
    by_birthday (λ z. z ≤ℤ days_from_civil date.year date.month date.day) date.year born
    (λ le. subst (λ (m : ℕ). days_from_civil date.year born.month born.day ≤ℤ days_from_civil date.year m date.day) same.0 (le_day date.year born.month born.day date.day parts.2.0 same.1))
    (λ lacks. absurd (let lacks2 : days_in_month date.year date.month < born.day = subst (λ (m : ℕ). days_in_month date.year m < born.day) same.0 lacks in omega (arith, lacks2, h.2.1, same.1)))

-- ---- the age

-- an age by the years of its two birthdays
age_by_years : (born : CivilDate) (n years year next : ℤ) → born.year +ℤ years ≡ year → born.year +ℤ (years +ℤ pos 1) ≡ next → IsYear year → IsYear next → birthday_in year born ≤ℤ n → n <ℤ birthday_in next born → IsAge born n years
age_by_years born n years year next e f is_year is_next come to_come = record {
  year = subst IsYear (sym e) is_year;
  next_year = subst IsYear (sym f) is_next;
  completed = subst (λ (y : ℤ). birthday_in y born ≤ℤ n) (sym e) come;
  not_yet = subst (λ (y : ℤ). n <ℤ birthday_in y born) (sym f) to_come;
}

years_by : (born date : CivilDate) (n m : ℤ) → HasDate m born → HasDate n date → (b : Bool) → is_earlier_in_year date born ≡ b → IsAge born n (if b then date.year -ℤ born.year -ℤ pos 1 else date.year -ℤ born.year)
years_by born date n m h k true e =
    let parts = civil n date k in
    let born_parts = civil m born h in
    let range = k.0.1 in
    let last : ℤ = date.year -ℤ pos 1 in
    let last_is_year : IsYear last = (omega (arith, signed_arith, range), omega (arith, signed_arith, range)) in
    let come = before_later_year last date.year date.month date.day born last_is_year born_parts parts.2.0 (omega (arith, signed_arith)) in
    let to_come = birthday_to_come date born parts born_parts (earlier date born e) in
    age_by_years born n _ last date.year (omega (arith, signed_arith)) (omega (arith, signed_arith)) last_is_year parts.0
    (subst (λ (z : ℤ). birthday_in last born ≤ℤ z) k.1 (weaker _ _ come))
    (subst (λ (z : ℤ). z <ℤ birthday_in date.year born) k.1 to_come)
years_by born date n m h k false e =
    let parts = civil n date k in
    let born_parts = civil m born h in
    let range = k.0.1 in
    let next : ℤ = date.year +ℤ pos 1 in
    let next_is_year : IsYear next = (omega (arith, signed_arith, range), omega (arith, signed_arith, range)) in
    let come = birthday_has_come date born parts born_parts (not_earlier date born e) in
    let to_come = after_earlier_year date.year date.month date.day next born parts born_parts (omega (arith, signed_arith)) in
    age_by_years born n _ date.year next (omega (arith, signed_arith)) (omega (arith, signed_arith)) parts.0 next_is_year
    (subst (λ (z : ℤ). birthday_in date.year born ≤ℤ z) k.1 come)
    (subst (λ (z : ℤ). z <ℤ birthday_in next born) k.1 to_come)

pub years_are_age : (born date : CivilDate) (n m : ℤ) → HasDate m born → HasDate n date → IsAge born n (years_completed born date)
years_are_age born date n m h k = years_by born date n m h k (is_earlier_in_year date born) refl

pub age_of_days : (born day : ℤ) (born_date date : CivilDate) → HasDate born born_date → HasDate day date → IsAge (date_of born) day (age_on born day)
age_of_days born day born_date date h k =
    years_are_age (date_of born) (date_of day) day born (has_own_date born born_date h) (has_own_date day date k)

-- the years by the test that the code makes
pub years_by_test : (born day : ℤ) (born_date date : CivilDate) (b : Bool) (years : ℤ) → born_date ≡ date_of born → date ≡ date_of day → is_earlier_in_year date born_date ≡ b → years ≡ (if b then date.year -ℤ born_date.year -ℤ pos 1 else date.year -ℤ born_date.year) → years ≡ age_on born day
years_by_test born day born_date date b years same_born same test e =
    e ∙ (ap (λ (t : Bool). if t then date.year -ℤ born_date.year -ℤ pos 1 else date.year -ℤ born_date.year) (sym test)
    ∙ (ap (λ d. years_completed d date) same_born ∙ ap (λ d. years_completed (date_of born) d) same))

-- a birthday that has come is no later than one that is to come
not_less : (born : CivilDate) (n a b : ℤ) → IsCivilDate born.year born.month born.day → IsAge born n a → IsAge born n b → a <ℤ b → ⊥
not_less born n a b parts h k lt =
    by_lt_z (born.year +ℤ (a +ℤ pos 1)) (born.year +ℤ b)
    (λ later. let rise = birthdays_rise _ _ born h.next_year parts later in omega (arith, signed_arith, rise, h.not_yet, k.completed))
    (λ not_later.
    let same : born.year +ℤ b ≡ born.year +ℤ (a +ℤ pos 1) = omega (arith, signed_arith, not_later, lt) in
    let completed = subst (λ (y : ℤ). birthday_in y born ≤ℤ n) same k.completed in
    omega (arith, signed_arith, completed, h.not_yet))

pub only_age : (born : CivilDate) (n a b : ℤ) → IsCivilDate born.year born.month born.day → IsAge born n a → IsAge born n b → a ≡ b
only_age born n a b parts h k =
    by_lt_z a b (λ lt. absurd (not_less born n a b parts h k lt))
    (λ ge. by_lt_z b a (λ lt. absurd (not_less born n b a parts k h lt)) (λ le. omega (arith, signed_arith, ge, le)))
