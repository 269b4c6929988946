-- The texts of fractions.
use Rattle.std.specs.Prelude.{◌≡◌, ℕ, ◌<◌, ◌⊎◌, ℤ, pos, List, ◌∷◌, ◌++◌, Option, Some, None, option_map, option_and_then, Result, Ok, Err, IsTrue, decimal}
use Rattle.std.specs.Str.Parse.{digits_value}
use Rattle.fact_paths.specs.Cuts.{at_slash}
use Rattle.fact_values.specs.Rationals.{Ratio, lowest, is_small, checked_ratio}
use Rattle.fact_values.specs.declared.fault.ValueFault.{ValueFault}
use Rattle.value_text.specs.Digits.{AreDigits, number_at}
use Rattle.value_text.specs.Wholes.{SpellsWhole, whole_at, printed_whole}

-- a whole number over 1, or over the 1 to 15 digits behind a slash
abbrev pub SpellsFraction : List ℕ → ℤ → ℕ → Type 0
SpellsFraction text num den =
    (SpellsWhole text num × (den ≡ 1))
    ⊎ ((front : List ℕ) × (back : List ℕ) × (text ≡ front ++ 47 ∷ back)
    × SpellsWhole front num × AreDigits 1 15 back × (den ≡ digits_value 10 back))

-- such a fraction whose denominator isn't 0 and whose lowest terms are small: these terms are the value
abbrev pub SpellsRational : List ℕ → Ratio → Type 0
SpellsRational text q =
    (num : ℤ) × (den : ℕ) × SpellsFraction text num den × (0 < den) × (q ≡ lowest num den) × IsTrue (is_small q)

-- the two terms that a text writes, cut at its first slash
abbrev pub fraction_from : List ℕ → Option (List ℕ × List ℕ) → Option (ℤ × ℕ)
fraction_from text None = option_map (λ num. (num, 1)) (whole_at text)
fraction_from text (Some parts) =
    option_and_then (λ num. option_map (λ den. (num, den)) (number_at 1 15 parts.1)) (whole_at parts.0)

-- the result, if it is one
abbrev pub kept : Result Ratio ValueFault → Option Ratio
kept (Ok q) = Some q
kept (Err fault) = None

-- the fraction that a text spells
abbrev pub rational_at : List ℕ → Option Ratio
rational_at text = option_and_then (λ terms. kept (checked_ratio terms.0 (pos terms.1))) (fraction_from text (at_slash text))

-- the numerator, a slash and the denominator
abbrev pub printed_rational : Ratio → List ℕ
printed_rational q = printed_whole q.num ++ 47 ∷ decimal q.den
