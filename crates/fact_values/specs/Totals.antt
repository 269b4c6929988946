-- Sums that are added up exactly, and tested once, at their end.
use Rattle.std.specs.Prelude.{ℕ, ℤ, Result, Ok, Err, if◌then◌else◌}
use Rattle.fact_values.specs.declared.fault.ValueFault.{ValueFault}
use Rattle.fact_values.specs.declared.fault.ValueFault.TheVariants.{Overflow}
use Rattle.fact_values.specs.Range.{is_in_range}

-- the exact sum, and how many numbers were added or taken away
pub record Sum : Type 0 where
  pub exact : ℤ
  pub calls : ℕ

-- the number itself in range, and Overflow outside
abbrev pub checked : ℤ → Result ℤ ValueFault
checked z = if is_in_range z then Ok z else Err Overflow
