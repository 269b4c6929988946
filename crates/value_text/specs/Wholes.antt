-- The texts of whole numbers.
use Rattle.std.specs.Prelude.{◌≡◌, ℕ, suc, ◌⊎◌, ℤ, pos, negsuc, neg_ℤ, List, ◌∷◌, drop, slice_index, ◌==◌, Option, option_map, if◌then◌else◌, decimal}
use Rattle.std.specs.Str.Parse.{digits_value}
use Rattle.value_text.specs.Digits.{AreDigits, number_at}

-- 1 to 15 digits, or these after a minus, which makes the number negative: so `-0` spells 0
abbrev pub SpellsWhole : List ℕ → ℤ → Type 0
SpellsWhole text number =
    (AreDigits 1 15 text × (number ≡ pos (digits_value 10 text)))
    ⊎ ((rest : List ℕ) × (text ≡ 45 ∷ rest) × AreDigits 1 15 rest × (number ≡ neg_ℤ (pos (digits_value 10 rest))))

-- the number that a text spells
abbrev pub whole_at : List ℕ → Option ℤ
whole_at text =
    if slice_index text 0 == 45
    then option_map (λ size. neg_ℤ (pos size)) (number_at 1 15 (drop 1 text))
    else option_map pos (number_at 1 15 text)

-- the shortest decimal
abbrev pub printed_whole : ℤ → List ℕ
printed_whole (pos n) = decimal n
printed_whole (negsuc n) = 45 ∷ decimal (suc n)
