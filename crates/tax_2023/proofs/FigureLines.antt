-- The figures of each year are those of its tables.
use Rattle.std.proofs.Common.{◌≡◌, refl}
use Rattle.tax_2023.specs.Figures.{figures, spelled_day, spelled_dollars}
use Rattle.tax_2023.specs.Years.{tables_of, written_for}
use Rattle.tax_2023.specs.declared.years.TaxYear.{TaxYear}
use Rattle.tax_2023.specs.declared.years.TaxYear.TheVariants.{Year2023}

-- a clause for the first, and one for all others
pub lines_are : (y : TaxYear) → (written_for y).1 ≡ figures (tables_of y)
unfolding spelled_dollars spelled_day
lines_are Year2023 = refl
lines_are y = refl
