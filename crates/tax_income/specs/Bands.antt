-- The rate schedule of a year, in dollars and percent. Source: the tax rate schedules of the instructions of Form 1040.
use Rattle.std.specs.Prelude.{ℕ, List, [], ◌∷◌, Option, Some, None}
use Rattle.tax_2023.specs.Household.{Status}
use Rattle.tax_income.specs.Years.{IncomeYear}

-- the upper ends of the bands but the last, which has none
abbrev pub ends : IncomeYear → Status → List ℕ
ends y s = y.end_10 s ∷ y.end_12 s ∷ y.end_22 s ∷ y.end_24 s ∷ y.end_32 s ∷ y.end_35 s ∷ []

-- the rates of the bands
abbrev pub rates : List ℕ
rates = 10 ∷ 12 ∷ 22 ∷ 24 ∷ 32 ∷ 35 ∷ 37 ∷ []

pub record Band : Type 0 where
  pub above : ℕ
  pub until : Option ℕ
  pub percent : ℕ

-- each band begins where the one before ends
abbrev pub bands_from : ℕ → List ℕ → List ℕ → List Band
bands_from low es [] = []
bands_from low [] (r ∷ rs) = record { above = low; until = None; percent = r } ∷ []
bands_from low (e ∷ es) (r ∷ rs) = record { above = low; until = Some e; percent = r } ∷ bands_from e es rs

abbrev pub bands : IncomeYear → Status → List Band
bands y s = bands_from 0 (ends y s) rates
