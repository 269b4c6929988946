-- Rounding a fraction to a whole number.
use Rattle.std.specs.Prelude.{◌≡◌, ℕ, suc, ◌+◌, ◌*◌, ◌/◌, ◌≤◌, ℤ, pos, negsuc, ◌*ℤ◌, ◌-ℤ◌, neg_ℤ, unsigned_abs, Result}
use Rattle.fact_values.specs.declared.fault.ValueFault.{ValueFault}
use Rattle.fact_values.specs.Totals.{checked}

-- The whole number nearest to size / den, at a tie the greater one. It is size / den and a half,
-- less the fraction of that.
abbrev pub rounded_size : ℕ → ℕ → ℕ
rounded_size size den = (2 * size + den) / (2 * den)

-- the whole number nearest to num / den, at a tie the one farther from zero
abbrev pub rounded : ℤ → ℕ → ℤ
rounded (pos n) den = pos (rounded_size n den)
rounded (negsuc n) den = neg_ℤ (pos (rounded_size (suc n) den))

-- how far the whole number z is from num / den, in parts of which den make one
abbrev pub distance : ℤ → ℕ → ℤ → ℕ
distance num den z = unsigned_abs (z *ℤ pos den -ℤ num)

-- z is nearest to num / den, and at a tie the one farther from zero
pub record IsNearest (num : ℤ) (den : ℕ) (z : ℤ) : Type 0 where
  -- it is a half away at most
  pub close : 2 * distance num den z ≤ den
  -- where it is a half away, it isn't nearer to zero than num / den
  pub tie : 2 * distance num den z ≡ den → unsigned_abs num ≤ unsigned_abs (z *ℤ pos den)

-- An amount in cents to whole dollars, of 100 cents each. Overflow where they are out of range.
abbrev pub rounded_dollar : ℤ → Result ℤ ValueFault
rounded_dollar cents = checked (rounded cents 100 *ℤ pos 100)
