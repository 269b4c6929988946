-- What is printed of a value spells it.
use Rattle.std.proofs.Common.{◌≡◌, inl, inr, ℕ, suc, ◌+◌, ◌*◌, ◌/◌, ◌%◌, ◌^◌, ◌<◌, true, leb, List, [], ◌∷◌, ◌++◌, Option, Some, None, unwrap_or, IsSome, refl, sym, ap, ◌∙◌, subst, arith}
use Rattle.std.specs.Prelude.{decimal, ℤ, pos, negsuc, neg_ℤ, int_div, unsigned_abs, codes}
use Rattle.std.specs.Str.{all_ascii_digits}
use Rattle.std.specs.Str.Parse.{digits_value}
use Rattle.std.proofs.Math.Nat.{div-one}
use Rattle.std.proofs.lemmas.Bool.{and_from, le-leb, ltb-true}
use Rattle.std.proofs.lemmas.Fmt.{decimal_nonempty, digits_decimal, digits_value-decimal}
use Rattle.std.proofs.lemmas.Nat.Gcd.{same_from_IsGcd}
use Rattle.std.proofs.lemmas.Str.{digit_value_digit}
use Rattle.std.proofs.lemmas.Str.Parse.{tells_all_ascii_digits}
use Rattle.jiff_core.proofs.CalendarLemmas.{days_in_month_bounds}
use Rattle.jiff_core.proofs.SignedLemmas.{signed_arith}
use Rattle.fact_values.specs.Days.{IsDay, IsDateOf}
use Rattle.fact_values.specs.Rationals.{Ratio, IsRational, gcd, lowest, is_small}
use Rattle.fact_values.specs.declared.fact_type.FactType.{FactType}
use Rattle.fact_values.specs.declared.fact_type.FactType.TheVariants as types
use Rattle.fact_values.specs.declared.value.Value.{Value}
use Rattle.fact_values.specs.declared.value.Value.TheVariants as values
use Rattle.fact_values.proofs.Divisors.{IsGcd-gcd}
use Rattle.value_text.specs.Digits.{AreDigits}
use Rattle.value_text.specs.Dates.{SpellsDay, two_digits, year_of_day, month_of_day, day_of_month, printed_day}
use Rattle.value_text.specs.Enums.{Listed, option_at}
use Rattle.value_text.specs.Fractions.{SpellsRational, printed_rational}
use Rattle.value_text.specs.Values.{SpellsValue, printed}
use Rattle.value_text.specs.ValueLaws.{IsValueOf}
use Rattle.value_text.specs.Wholes.{SpellsWhole, printed_whole}
use Rattle.value_text.proofs.DateLemmas.{date_of_day}
use Rattle.value_text.proofs.Decimals.{decimal_within}
use Rattle.value_text.proofs.DigitLemmas.{own}
use Rattle.value_text.proofs.PrintedLaws.{printed_spells, is_digit, two_digits as are_two_digits, digits_value-two}

-- ---- numbers

decimal_digits : (n : ℕ) → n < 10 ^ 15 → AreDigits 1 15 (decimal n)
decimal_digits n small = (decimal_nonempty n (omega arith), decimal_within n small, digits_decimal own n (omega arith))

whole_spelled : (z : ℤ) → unsigned_abs z < 10 ^ 15 → SpellsWhole (printed_whole z) z
whole_spelled (pos n) small = inl (decimal_digits n small, ap pos (sym (digits_value-decimal own n (omega arith))))
whole_spelled (negsuc n) small =
    let value = digits_value-decimal own (suc n) (omega arith) in
    inr (decimal (suc n), refl, decimal_digits (suc n) small, ap (λ (m : ℕ). neg_ℤ (pos m)) (sym value))

-- ---- fractions

over_one : (z : ℤ) → int_div z (pos 1) ≡ z
over_one (pos n) = ap pos (div-one n)
over_one (negsuc n) = ap (λ (m : ℕ). neg_ℤ (pos m)) (div-one (suc n))

-- a fraction in lowest terms stays as it is
lowest_stays : (q : Ratio) → IsRational q → q ≡ lowest q.num q.den
lowest_stays q h =
    let one : gcd (unsigned_abs q.num) q.den ≡ 1 = same_from_IsGcd (unsigned_abs q.num) q.den _ _ (IsGcd-gcd (unsigned_abs q.num) q.den) h.3 in
    let over : ℤ → ℕ → Ratio = λ n d. record { num = n; den = d } in
    let terms : ℕ → Ratio = λ g. over (int_div q.num (pos g)) (q.den / g) in
    sym (ap terms one ∙ ap (λ z. over z (q.den / 1)) (over_one q.num) ∙ ap (over q.num) (div-one q.den))

small_terms : (q : Ratio) → IsRational q → is_small q ≡ true
small_terms q h = and_from (leb (unsigned_abs q.num) 1000000000000) (leb q.den 1000000000000) (le-leb (unsigned_abs q.num) 1000000000000 h.2) (le-leb q.den 1000000000000 h.1)

rational_spelled : (q : Ratio) → IsRational q → SpellsRational (printed_rational q) q
rational_spelled q h =
    let num = whole_spelled q.num (omega (arith, h.2)) in
    let den = decimal_digits q.den (omega (arith, h.1)) in
    let value = digits_value-decimal own q.den (omega (arith, h.1)) in
    (q.num, q.den, inr (printed_whole q.num, decimal q.den, refl, num, den, sym value), h.0, lowest_stays q h, small_terms q h)

-- ---- days

pair_digits : (n : ℕ) → AreDigits 2 2 (two_digits n)
pair_digits n = (omega arith, omega arith, are_two_digits (n / 10 % 10) (n % 10) (omega arith) (omega arith))

pair_value : (n : ℕ) → n < 100 → digits_value 10 (two_digits n) ≡ n
pair_value n small = digits_value-two (n / 10 % 10) (n % 10) (omega arith) (omega arith) ∙ omega arith

four_are_digits : (a b c d : ℕ) → a < 10 → b < 10 → c < 10 → d < 10 → all_ascii_digits ((48 + a) ∷ (48 + b) ∷ (48 + c) ∷ (48 + d) ∷ []) ≡ true
four_are_digits a b c d sa sb sc sd =
    let tells = tells_all_ascii_digits in
    tells.more (48 + a) ((48 + b) ∷ (48 + c) ∷ (48 + d) ∷ []) (is_digit a sa) (tells.more (48 + b) ((48 + c) ∷ (48 + d) ∷ []) (is_digit b sb) (are_two_digits c d sc sd))

digits_value-four : (a b c d : ℕ) → a < 10 → b < 10 → c < 10 → d < 10 → digits_value 10 ((48 + a) ∷ (48 + b) ∷ (48 + c) ∷ (48 + d) ∷ []) ≡ 1000 * a + 100 * b + 10 * c + d
digits_value-four a b c d sa sb sc sd =
    let value_a = digit_value_digit (48 + a) (is_digit a sa) in
    let value_b = digit_value_digit (48 + b) (is_digit b sb) in
    let value_c = digit_value_digit (48 + c) (is_digit c sc) in
    let value_d = digit_value_digit (48 + d) (is_digit d sd) in
    omega (arith, value_a, value_b, value_c, value_d)

year_digits : (y : ℕ) → AreDigits 4 4 (two_digits (y / 100) ++ two_digits y)
year_digits y = (omega arith, omega arith, four_are_digits (y / 100 / 10 % 10) (y / 100 % 10) (y / 10 % 10) (y % 10) (omega arith) (omega arith) (omega arith) (omega arith))

year_value : (y : ℕ) → y < 10000 → digits_value 10 (two_digits (y / 100) ++ two_digits y) ≡ y
year_value y small =
    digits_value-four (y / 100 / 10 % 10) (y / 100 % 10) (y / 10 % 10) (y % 10) (omega arith) (omega arith) (omega arith) (omega arith) ∙ omega arith

date_spelled : (n : ℤ) (y m d : ℕ) → IsDateOf n (pos y) (pos m) (pos d) → SpellsDay ((two_digits (y / 100) ++ two_digits y) ++ 45 ∷ (two_digits m ++ 45 ∷ two_digits d)) n
date_spelled n y m d h =
    let y1 = h.0.1.1 in
    let m1 = h.0.0.1.1 in
    let d1 = h.0.0.2.1 in
    let bound = (days_in_month_bounds (pos y) m).0 in
    let year = year_value y (omega (arith, signed_arith)) in
    let month = pair_value m (omega (arith, signed_arith)) in
    let day = pair_value d (omega (arith, signed_arith)) in
    let by_day : IsDateOf n (pos y) (pos m) (pos (digits_value 10 (two_digits d))) = subst (λ (k : ℕ). IsDateOf n (pos y) (pos m) (pos k)) (sym day) h in
    let by_month : IsDateOf n (pos y) (pos (digits_value 10 (two_digits m))) (pos (digits_value 10 (two_digits d))) = subst (λ (k : ℕ). IsDateOf n (pos y) (pos k) (pos (digits_value 10 (two_digits d)))) (sym month) by_day in
    let by_year : IsDateOf n (pos (digits_value 10 (two_digits (y / 100) ++ two_digits y))) (pos (digits_value 10 (two_digits m))) (pos (digits_value 10 (two_digits d))) = subst (λ (k : ℕ). IsDateOf n (pos k) (pos (digits_value 10 (two_digits m))) (pos (digits_value 10 (two_digits d)))) (sym year) by_month in
    (two_digits (y / 100) ++ two_digits y, two_digits m, two_digits d, refl, year_digits y, pair_digits m, pair_digits d, by_year)

day_spelled : (n : ℤ) → IsDay n → SpellsDay (printed_day n) n
day_spelled n range = date_spelled n (year_of_day n) (month_of_day n) (day_of_month n) (date_of_day n range)

-- ---- values

there : (o : Option (List ℕ)) → IsSome o → o ≡ Some (unwrap_or o (codes ""))
there None h = absurd cc
there (Some text) h = refl

-- what is printed of a value spells it
pub value_spelled : (lists : List Listed) (want : FactType) (value : Value) → IsValueOf lists want value → SpellsValue lists want (printed lists value) value
value_spelled lists types.Boolean (values.Boolean b) h = refl
value_spelled lists types.Int (values.Int n) h = whole_spelled n (ltb-true (unsigned_abs n) 1000000000000000 h)
value_spelled lists types.Dollar (values.Dollar n) h = printed_spells n h
value_spelled lists types.Rational (values.Rational q) h = rational_spelled q h
value_spelled lists types.Day (values.Day n) h = day_spelled n h
value_spelled lists types.Text (values.Text text) h = (refl, h)
value_spelled lists (types.Enum at_list) (values.Choice list place) h =
    (h.0, subst (λ (l : ℕ). option_at lists at_list place ≡ Some (unwrap_or (option_at lists l place) (codes ""))) (sym h.0) (there (option_at lists at_list place) h.1))
value_spelled lists want value h = absurd h
