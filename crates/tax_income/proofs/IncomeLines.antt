-- The figures of the income of each year are those of its tables.
use Rattle.std.proofs.Common.{◌≡◌, refl}
use Rattle.tax_2023.specs.Figures.{spelled_day, spelled_dollars}
use Rattle.tax_2023.specs.declared.years.TaxYear.{TaxYear}
use Rattle.tax_2023.specs.declared.years.TaxYear.TheVariants.{Year2023}
use Rattle.tax_income.specs.Figures.{income_figures}
use Rattle.tax_income.specs.Years.{ends_for, income_of}

-- a clause for the first, and one for all others
pub lines_are : (y : TaxYear) → ends_for y ≡ income_figures (income_of y)
unfolding spelled_dollars spelled_day
lines_are Year2023 = refl
lines_are y = refl
