-- Numbers and their digits.
use Rattle.std.proofs.Common.{◌≡◌, ℕ, ◌^◌, ◌<◌, ◌≤◌, true, ◌&&◌, List, length, Option, Some, None, if◌then◌else◌, arith, refl, sym, leb}
use Rattle.std.proofs.Math.Nat.{pow-le-pow_right}
use Rattle.std.proofs.lemmas.Bool.{and_parts, leb-true, le-leb}
use Rattle.std.proofs.lemmas.Option.{cond_some}
use Rattle.std.proofs.lemmas.Str.Parse.{IsNumeralModel, numerals_by_value, tells_all_ascii_digits}
use Rattle.std.specs.Str.{all_ascii_digits}
use Rattle.std.specs.Str.Parse.{digits_value, digits_value_after}
use Rattle.std.specs.Prelude.{IfSome}
use Rattle.value_text.specs.Digits.{AreDigits, are_digits, number_at}

-- std's lemmas on numerals, for these words
pub own : IsNumeralModel (λ text. all_ascii_digits text ≡ true) (digits_value 10)
own = numerals_by_value (λ text. all_ascii_digits text ≡ true) tells_all_ascii_digits

-- ---- read from the left

-- what the digits write after those of n
abbrev pub number_after : ℕ → List ℕ → Option ℕ
number_after n text = if all_ascii_digits text then Some (digits_value_after 10 n text) else None

-- after up to 14 digits there is room for one more
pub small_after : (n i : ℕ) → n < 10 ^ i → i ≤ 14 → n < 10 ^ 14
small_after n i small few = let bound : 10 ^ i ≤ 10 ^ 14 = pow-le-pow_right (omega arith) few in omega arith

-- fewer digits write no larger number
pub small_within : (r : Option ℕ) (text : List ℕ) (most : ℕ) → IfSome r (λ n. n < 10 ^ length text) → length text ≤ most → IfSome r (λ n. n < 10 ^ most)
small_within None text most small few = tt
small_within (Some n) text most small few = let bound : 10 ^ length text ≤ 10 ^ most = pow-le-pow_right (omega arith) few in omega arith

-- ---- whole numbers

-- digits write their number
pub number_of : (least most : ℕ) (text : List ℕ) → AreDigits least most text → number_at least most text ≡ Some (digits_value 10 text)
number_of least most text digits =
    let least_is = le-leb least (length text) digits.0 in
    let most_is = le-leb (length text) most digits.1 in
    rw (least_is, most_is, digits.2) refl

-- and a number is written by digits alone
pub number_is : (least most : ℕ) (text : List ℕ) (n : ℕ) → number_at least most text ≡ Some n → AreDigits least most text × (n ≡ digits_value 10 text)
number_is least most text n e =
    let tested = cond_some (are_digits least most text) (digits_value 10 text) n e in
    let parts = and_parts (leb least (length text) && leb (length text) most) (all_ascii_digits text) tested.0 in
    let bounds = and_parts (leb least (length text)) (leb (length text) most) parts.0 in
    ((leb-true least (length text) bounds.0, leb-true (length text) most bounds.1, parts.1), sym tested.1)
