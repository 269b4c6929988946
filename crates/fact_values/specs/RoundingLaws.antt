-- What holds of rounding at every fraction.
use Rattle.std.specs.Prelude.{◌≡◌, ℕ, ◌≤◌, ℤ, ◌↔◌}
use Rattle.fact_values.specs.Rounding.{rounded, IsNearest}

-- the rounded number is the nearest one, and no other is
abbrev pub RoundsToNearest : Type 0
RoundsToNearest = (num : ℤ) (den : ℕ) (z : ℤ) → 1 ≤ den → IsNearest num den z ↔ (z ≡ rounded num den)
