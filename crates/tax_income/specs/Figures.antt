-- The figures of the income of a year, from its tables.
use Rattle.std.specs.Prelude.{◌-◌, List, [], ◌∷◌, codes}
use Rattle.written_facts.specs.Figures.{Named}
use Rattle.tax_2023.specs.Figures.{spelled_day, spelled_dollars}
use Rattle.tax_2023.specs.Household.{single, separately, jointly, head_of_household}
use Rattle.tax_income.specs.Years.{IncomeYear}

abbrev pub income_figures : IncomeYear → List Named
income_figures y =
    (codes "10 percent, couple", spelled_dollars (y.end_10 jointly))
    ∷ (codes "10 percent, head of household", spelled_dollars (y.end_10 head_of_household))
    ∷ (codes "10 percent, separately", spelled_dollars (y.end_10 separately))
    ∷ (codes "10 percent, single", spelled_dollars (y.end_10 single))
    ∷ (codes "12 percent, couple", spelled_dollars (y.end_12 jointly))
    ∷ (codes "12 percent, head of household", spelled_dollars (y.end_12 head_of_household))
    ∷ (codes "12 percent, separately", spelled_dollars (y.end_12 separately))
    ∷ (codes "12 percent, single", spelled_dollars (y.end_12 single))
    ∷ (codes "22 percent, couple", spelled_dollars (y.end_22 jointly))
    ∷ (codes "22 percent, head of household", spelled_dollars (y.end_22 head_of_household))
    ∷ (codes "22 percent, separately", spelled_dollars (y.end_22 separately))
    ∷ (codes "22 percent, single", spelled_dollars (y.end_22 single))
    ∷ (codes "24 percent, couple", spelled_dollars (y.end_24 jointly))
    ∷ (codes "24 percent, head of household", spelled_dollars (y.end_24 head_of_household))
    ∷ (codes "24 percent, separately", spelled_dollars (y.end_24 separately))
    ∷ (codes "24 percent, single", spelled_dollars (y.end_24 single))
    ∷ (codes "32 percent, couple", spelled_dollars (y.end_32 jointly))
    ∷ (codes "32 percent, head of household", spelled_dollars (y.end_32 head_of_household))
    ∷ (codes "32 percent, separately", spelled_dollars (y.end_32 separately))
    ∷ (codes "32 percent, single", spelled_dollars (y.end_32 single))
    ∷ (codes "35 percent, couple", spelled_dollars (y.end_35 jointly))
    ∷ (codes "35 percent, head of household", spelled_dollars (y.end_35 head_of_household))
    ∷ (codes "35 percent, separately", spelled_dollars (y.end_35 separately))
    ∷ (codes "35 percent, single", spelled_dollars (y.end_35 single))
    ∷ (codes "under 17, born after", spelled_day (y.tables.year - 17) (codes "-12-31"))
    ∷ []
