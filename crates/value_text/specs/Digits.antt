-- Texts of decimal digits.
use Rattle.std.specs.Prelude.{ℕ, ◌≤◌, Bool, ◌&&◌, nat_le, List, length, IsTrue, Option, Some, None, if◌then◌else◌}
use Rattle.std.specs.Str.{all_ascii_digits}
use Rattle.std.specs.Str.Parse.{digits_value}

-- `least` to `most` digits, and nothing else
abbrev pub AreDigits : ℕ → ℕ → List ℕ → Type 0
AreDigits least most text = (least ≤ length text) × (length text ≤ most) × IsTrue (all_ascii_digits text)

abbrev pub are_digits : ℕ → ℕ → List ℕ → Bool
are_digits least most text = nat_le least (length text) && nat_le (length text) most && all_ascii_digits text

-- the number that `least` to `most` digits write
abbrev pub number_at : ℕ → ℕ → List ℕ → Option ℕ
number_at least most text = if are_digits least most text then Some (digits_value 10 text) else None
