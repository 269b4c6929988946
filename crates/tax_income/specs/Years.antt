-- The written tables of the income of each year, in dollars. Their numbers stand in the module `figures`, a figure a line.
use Rattle.std.specs.Prelude.{ℕ, ◌++◌, List, map, codes}
use Rattle.written_facts.specs.Figures.{Named}
use Rattle.tax_2023.specs.Household.{Status, single, separately, jointly, surviving_spouse, head_of_household}
use Rattle.tax_2023.specs.Years.{Year, dollars_under, tables_of}
use Rattle.tax_2023.specs.declared.years.TaxYear.{TaxYear}
use Rattle.tax_2023.specs.declared.years.TaxYear.TheVariants.{Year2023, Year2024}
use Rattle.tax_income.specs.declared.figures.TheConstants.{FIGURES_2023, FIGURES_2024}

-- the tables of the year, and the upper ends of the bands of its rate schedule, by the rate below them in percent; the last band
-- has none
pub record IncomeYear : Type 0 where
  pub tables : Year
  pub end_10 : Status → ℕ
  pub end_12 : Status → ℕ
  pub end_22 : Status → ℕ
  pub end_24 : Status → ℕ
  pub end_32 : Status → ℕ
  pub end_35 : Status → ℕ

-- ---- the tables with these figures

-- the upper end of the band with this name
abbrev pub end_in : List Named → List ℕ → Status → ℕ
end_in gs band single = dollars_under gs (band ++ codes ", single")
end_in gs band separately = dollars_under gs (band ++ codes ", separately")
end_in gs band jointly = dollars_under gs (band ++ codes ", couple")
end_in gs band surviving_spouse = dollars_under gs (band ++ codes ", couple")
end_in gs band head_of_household = dollars_under gs (band ++ codes ", head of household")

abbrev pub income_in : Year → List Named → IncomeYear
income_in y gs = record {
  tables = y;
  end_10 = end_in gs (codes "10 percent");
  end_12 = end_in gs (codes "12 percent");
  end_22 = end_in gs (codes "22 percent");
  end_24 = end_in gs (codes "24 percent");
  end_32 = end_in gs (codes "32 percent");
  end_35 = end_in gs (codes "35 percent");
}

-- ---- the years

abbrev pub ends_for : TaxYear → List Named
ends_for Year2023 = map (λ f. (f.0.now, f.1.now)) FIGURES_2023
ends_for Year2024 = map (λ f. (f.0.now, f.1.now)) FIGURES_2024

abbrev pub income_of : TaxYear → IncomeYear
income_of y = income_in (tables_of y) (ends_for y)
