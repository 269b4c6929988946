-- Laws of fractions in lowest terms.
use Rattle.std.specs.Prelude.{◌≡◌, ℕ, ◌<◌, ℤ, pos, ◌*ℤ◌, unsigned_abs}
use Rattle.std.specs.Int.{IsGcd}
use Rattle.fact_values.specs.Rationals.{Ratio, IsRational, gcd, lowest}

-- p is n over d: crosswise the products are equal
abbrev pub IsEqualTo : Ratio → ℤ → ℕ → Type 0
IsEqualTo p n d = p.num *ℤ pos d ≡ n *ℤ pos p.den

abbrev pub GcdIsGreatest : Type 0
GcdIsGreatest = (a b : ℕ) → IsGcd a b (gcd a b)

abbrev pub LowestIsEqual : Type 0
LowestIsEqual = (n : ℤ) (d : ℕ) → IsEqualTo (lowest n d) n d

abbrev pub LowestHasDenominator : Type 0
LowestHasDenominator = (n : ℤ) (d : ℕ) → 0 < d → 0 < (lowest n d).den

abbrev pub LowestIsLowest : Type 0
LowestIsLowest = (n : ℤ) (d : ℕ) → 0 < d → IsGcd (unsigned_abs (lowest n d).num) (lowest n d).den 1

abbrev pub EqualRationalsAreOne : Type 0
EqualRationalsAreOne = (p q : Ratio) → IsRational p → IsRational q → IsEqualTo p q.num q.den → p ≡ q
