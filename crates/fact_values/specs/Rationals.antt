-- Fractions of whole numbers, in lowest terms, and the range of those that a value may be.
use Rattle.std.specs.Prelude.{ℕ, zero, suc, ◌%◌, ◌/◌, ◌<◌, ◌≤◌, ℤ, pos, negsuc, neg_ℤ, ◌+ℤ◌, ◌-ℤ◌, ◌*ℤ◌, ◌*◌, Bool, ◌&&◌, nat_le, unsigned_abs, int_div, Result, Ok, Err, if◌then◌else◌}
use Rattle.std.specs.Int.{IsGcd}
use Rattle.fact_values.specs.declared.fault.ValueFault.{ValueFault}
use Rattle.fact_values.specs.declared.fault.ValueFault.TheVariants.{Overflow, ZeroDivide}

-- num over den
pub record Ratio : Type 0 where
  pub num : ℤ
  pub den : ℕ

-- Euclid's algorithm, in at most so many steps
abbrev pub gcd_within : ℕ → ℕ → ℕ → ℕ
gcd_within zero a b = a
gcd_within (suc steps) a zero = a
gcd_within (suc steps) a (suc b) = gcd_within steps (suc b) (a % suc b)

-- The greatest common divisor. The second number falls at each step, so that as many steps as it says are enough.
unfoldable pub gcd : ℕ → ℕ → ℕ
gcd a b = gcd_within b a b

-- the fraction n over d in lowest terms, for a d that is not 0
abbrev pub lowest : ℤ → ℕ → Ratio
lowest n d = record { num = int_div n (pos (gcd (unsigned_abs n) d)); den = d / gcd (unsigned_abs n) d }

-- both terms are at most 10^12 in size
abbrev pub is_small : Ratio → Bool
is_small q = nat_le (unsigned_abs q.num) 1000000000000 && nat_le q.den 1000000000000

-- what a Rational can be: a denominator above 0, both terms small, and no divisor in common but 1
abbrev pub IsRational : Ratio → Type 0
IsRational q = (0 < q.den) × (q.den ≤ 1000000000000) × (unsigned_abs q.num ≤ 1000000000000) × IsGcd (unsigned_abs q.num) q.den 1

-- the fraction itself where both terms are small, and Overflow elsewhere
abbrev pub checked_small : Ratio → Result Ratio ValueFault
checked_small q = if is_small q then Ok q else Err Overflow

abbrev pub checked_lowest : ℤ → ℕ → Result Ratio ValueFault
checked_lowest n d = checked_small (lowest n d)

-- n over d in lowest terms, with the sign in the numerator
abbrev pub checked_ratio : ℤ → ℤ → Result Ratio ValueFault
checked_ratio n (pos zero) = Err ZeroDivide
checked_ratio n (pos (suc d)) = checked_lowest n (suc d)
checked_ratio n (negsuc d) = checked_lowest (neg_ℤ n) (suc d)

-- ---- operations, for denominators that aren't 0

abbrev pub sum_of_ratios : Ratio → Ratio → Result Ratio ValueFault
sum_of_ratios a b = checked_lowest (a.num *ℤ pos b.den +ℤ b.num *ℤ pos a.den) (a.den * b.den)

abbrev pub difference_of_ratios : Ratio → Ratio → Result Ratio ValueFault
difference_of_ratios a b = checked_lowest (a.num *ℤ pos b.den -ℤ b.num *ℤ pos a.den) (a.den * b.den)
