-- Rounding an exact number of cents to a multiple of an amount.
use Rattle.std.specs.Prelude.{◌≡◌, ℕ, ◌≤◌, ◌*◌, ℤ, pos, neg_ℤ, ◌*ℤ◌, ◌≤ℤ◌, unsigned_abs, Result}
use Rattle.std.specs.Int.{int_div_euclid}
use Rattle.fact_values.specs.declared.fault.ValueFault.{ValueFault}
use Rattle.fact_values.specs.declared.num.Num.{Num}
use Rattle.fact_values.specs.declared.num.Num.TheVariants.{Int, Dollar, Rational}
use Rattle.fact_values.specs.Rationals.{Ratio}
use Rattle.fact_values.specs.Rounding.{distance, rounded}
use Rattle.fact_values.specs.Totals.{checked}

-- how many cents a number is: an amount, or a whole number or a fraction of dollars
abbrev pub cents_of : Num → Ratio
cents_of (Int dollars) = record { num = dollars *ℤ pos 100; den = 1 }
cents_of (Dollar cents) = record { num = cents; den = 1 }
cents_of (Rational dollars) = record { num = dollars.num *ℤ pos 100; den = dollars.den }

-- ---- what the law says

-- n is so many times the unit
abbrev pub IsMultipleOf : ℕ → ℤ → Type 0
IsMultipleOf unit n = (times : ℤ) × (n ≡ times *ℤ pos unit)

-- n is at least q
abbrev pub IsAtLeast : Ratio → ℤ → Type 0
IsAtLeast q n = q.num ≤ℤ (n *ℤ pos q.den)

-- n is at most q
abbrev pub IsAtMost : Ratio → ℤ → Type 0
IsAtMost q n = (n *ℤ pos q.den) ≤ℤ q.num

-- the least multiple of the unit that is at least q
pub record IsRoundedUp (unit : ℕ) (q : Ratio) (n : ℤ) : Type 0 where
  pub multiple : IsMultipleOf unit n
  pub at_least : IsAtLeast q n
  pub least : (other : ℤ) → IsMultipleOf unit other → IsAtLeast q other → n ≤ℤ other

-- the greatest multiple of the unit that is at most q
pub record IsRoundedDown (unit : ℕ) (q : Ratio) (n : ℤ) : Type 0 where
  pub multiple : IsMultipleOf unit n
  pub at_most : IsAtMost q n
  pub greatest : (other : ℤ) → IsMultipleOf unit other → IsAtMost q other → other ≤ℤ n

-- the multiple of the unit that is nearest to q, and of two that are as near the one farther from zero
pub record IsRoundedNearest (unit : ℕ) (q : Ratio) (n : ℤ) : Type 0 where
  pub multiple : IsMultipleOf unit n
  pub nearest : (other : ℤ) → IsMultipleOf unit other → distance q.num q.den n ≤ distance q.num q.den other
  pub tie : (other : ℤ) → IsMultipleOf unit other → distance q.num q.den n ≡ distance q.num q.den other → unsigned_abs other ≤ unsigned_abs n

-- ---- the multiple itself, for a unit and a denominator that aren't 0

abbrev pub multiple_below : ℕ → Ratio → ℤ
multiple_below unit q = int_div_euclid q.num (pos (q.den * unit)) *ℤ pos unit

abbrev pub multiple_above : ℕ → Ratio → ℤ
multiple_above unit q = neg_ℤ (int_div_euclid (neg_ℤ q.num) (pos (q.den * unit))) *ℤ pos unit

abbrev pub multiple_near : ℕ → Ratio → ℤ
multiple_near unit q = rounded q.num (q.den * unit) *ℤ pos unit

-- ---- amounts: Overflow where they are out of range

abbrev pub rounded_up : ℕ → Num → Result ℤ ValueFault
rounded_up unit n = checked (multiple_above unit (cents_of n))

abbrev pub rounded_down : ℕ → Num → Result ℤ ValueFault
rounded_down unit n = checked (multiple_below unit (cents_of n))

abbrev pub rounded_nearest : ℕ → Num → Result ℤ ValueFault
rounded_nearest unit n = checked (multiple_near unit (cents_of n))
