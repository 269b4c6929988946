-- The texts of amounts. An amount is a whole number of cents.
use Rattle.std.specs.Prelude.{◌≡◌, ℕ, suc, ◌+◌, ◌-◌, ◌*◌, ◌/◌, ◌%◌, ◌⊎◌, ℤ, pos, negsuc, neg_ℤ, List, [], ◌∷◌, ◌++◌, length, take, drop, slice_index, ◌==◌, Option, if◌then◌else◌, decimal}
use Rattle.std.specs.Option.{option_map, option_and_then}
use Rattle.std.specs.Str.Parse.{digits_value}
use Rattle.value_text.specs.Digits.{AreDigits, number_at}

abbrev pub minus : ℕ
minus = 45

abbrev pub point : ℕ
point = 46

-- 1 to 13 digits of dollars, and a point and exactly two digits of cents, or neither; `size` cents in all
abbrev pub SpellsSize : List ℕ → ℕ → Type 0
SpellsSize text size =
    (AreDigits 1 13 text × (size ≡ 100 * digits_value 10 text))
    ⊎ ((dollars : List ℕ) × (cents : List ℕ) × (text ≡ dollars ++ point ∷ cents)
    × AreDigits 1 13 dollars × AreDigits 2 2 cents
    × (size ≡ 100 * digits_value 10 dollars + digits_value 10 cents))

-- such a text, or one after a minus, which makes the amount negative: so `-0` spells 0
abbrev pub SpellsDollar : List ℕ → ℤ → Type 0
SpellsDollar text amount =
    ((size : ℕ) × SpellsSize text size × (amount ≡ pos size))
    ⊎ ((rest : List ℕ) × (size : ℕ) × (text ≡ minus ∷ rest) × SpellsSize rest size × (amount ≡ neg_ℤ (pos size)))

-- what digits of dollars before the byte at `cut` and two digits of cents behind it come to
abbrev pub size_around : ℕ → List ℕ → Option ℕ
size_around cut text =
    option_and_then
    (λ dollars. option_map (λ cents. 100 * dollars + cents) (number_at 2 2 (drop (cut + 1) text)))
    (number_at 1 13 (take cut text))

-- what a text without a sign spells, where cents follow a point at the third byte from the end
abbrev pub size_at : List ℕ → Option ℕ
size_at text =
    let cut = length text - 3 in
    if slice_index text cut == point
    then size_around cut text
    else option_map (λ dollars. 100 * dollars) (number_at 1 13 text)

-- the amount that a text spells
abbrev pub dollar_at : List ℕ → Option ℤ
dollar_at text =
    if slice_index text 0 == minus
    then option_map (λ size. neg_ℤ (pos size)) (size_at (drop 1 text))
    else option_map pos (size_at text)

-- dollars with no leading zeros, a point and two digits of cents
abbrev pub printed_size : ℕ → List ℕ
printed_size size = decimal (size / 100) ++ point ∷ (48 + size / 10 % 10) ∷ (48 + size % 10) ∷ []

-- the same behind a minus where the amount is negative
abbrev pub printed_dollar : ℤ → List ℕ
printed_dollar (pos size) = printed_size size
printed_dollar (negsuc n) = minus ∷ printed_size (suc n)
