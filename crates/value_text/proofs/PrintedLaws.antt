-- What is printed spells the amount, and is short.
use Rattle.std.proofs.Common.{◌≡◌, ℕ, suc, ◌+◌, ◌*◌, ◌/◌, ◌%◌, ◌^◌, ◌<◌, ◌≤◌, true, [], ◌∷◌, length, inl, inr, refl, arith, ltb-true}
use Rattle.std.specs.Prelude.{decimal, ℤ, pos, negsuc}
use Rattle.std.specs.Int.{IsInRange as IsBetween}
use Rattle.std.specs.Str.{all_ascii_digits}
use Rattle.std.specs.Str.Parse.{digits_value}
use Rattle.std.proofs.lemmas.Fmt.{length-decimal-le, decimal_nonempty, digits_decimal, digits_value-decimal}
use Rattle.std.proofs.lemmas.Str.{digit_value_digit}
use Rattle.std.proofs.lemmas.Str.Parse.{tells_all_ascii_digits}
use Rattle.fact_values.specs.Range.{IsInRange}
use Rattle.value_text.specs.Digits.{AreDigits}
use Rattle.value_text.specs.Dollars.{SpellsSize, SpellsDollar, printed_size, printed_dollar}
use Rattle.value_text.proofs.DigitLemmas.{own}

-- ---- two digits of cents

-- a digit's byte
pub is_digit : (d : ℕ) → d < 10 → IsBetween 48 57 (48 + d)
is_digit d small = (omega arith, omega arith)

-- two of them
pub two_digits : (a b : ℕ) → a < 10 → b < 10 → all_ascii_digits ((48 + a) ∷ (48 + b) ∷ []) ≡ true
two_digits a b small_a small_b =
    let tells = tells_all_ascii_digits in
    tells.more (48 + a) ((48 + b) ∷ []) (is_digit a small_a) (tells.more (48 + b) [] (is_digit b small_b) tells.empty)

-- and their number
pub digits_value-two : (a b : ℕ) → a < 10 → b < 10 → digits_value 10 ((48 + a) ∷ (48 + b) ∷ []) ≡ 10 * a + b
digits_value-two a b small_a small_b =
    let value_a = digit_value_digit (48 + a) (is_digit a small_a) in
    let value_b = digit_value_digit (48 + b) (is_digit b small_b) in
    omega (arith, value_a, value_b)

-- ---- dollars

-- whole dollars in range print as 1 to 13 digits
dollars_are_digits : (n : ℕ) → n < 10 ^ 13 → AreDigits 1 13 (decimal n)
dollars_are_digits n small =
    let fits : n < 2 ^ 64 = omega arith in
    (decimal_nonempty n fits, length-decimal-le 13 n (omega arith) small fits, digits_decimal own n fits)

-- ---- amounts

-- the printed cents of an amount that is not negative spell it
printed_spells_size : (size : ℕ) → size < 10 ^ 15 → SpellsSize (printed_size size) size
printed_spells_size size small =
    let tens : size / 10 % 10 < 10 = omega arith in
    let ones : size % 10 < 10 = omega arith in
    let dollars = digits_value-decimal own (size / 100) (omega arith) in
    let cents = digits_value-two (size / 10 % 10) (size % 10) tens ones in
    inr (
      decimal (size / 100),
      (48 + size / 10 % 10) ∷ (48 + size % 10) ∷ [],
      refl,
      dollars_are_digits (size / 100) (omega arith),
      (omega arith, omega arith, two_digits (size / 10 % 10) (size % 10) tens ones),
      omega (arith, dollars, cents),
    )

-- what is printed spells the amount
pub printed_spells : (amount : ℤ) → IsInRange amount → SpellsDollar (printed_dollar amount) amount
printed_spells (pos n) range = inl (n, printed_spells_size n (ltb-true n 1000000000000000 range), refl)
printed_spells (negsuc n) range = inr (printed_size (suc n), suc n, refl, printed_spells_size (suc n) (ltb-true (suc n) 1000000000000000 range), refl)

-- the dollars of an amount in range have at most 13 digits
pub dollars_short : (size : ℕ) → size < 10 ^ 15 → length (decimal (size / 100)) ≤ 13
dollars_short size small = let dollars = dollars_are_digits (size / 100) (omega arith) in dollars.1
