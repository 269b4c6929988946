-- The figures of the income of a year spell the numbers and the day of its tables.
use Rattle.std.proofs.Common.{◌≡◌, ℕ, ◌-◌, IsTrue, nat_le, pos, ◌-ℤ◌, Some, codes, refl, ap}
use Rattle.std.specs.List.{list_all}
use Rattle.value_text.specs.Dates.{day_at}
use Rattle.value_text.specs.Dollars.{dollar_at}
use Rattle.tax_2023.specs.Figures.{spelled_day, spelled_dollars}
use Rattle.tax_2023.specs.Household.{Status, single, separately, jointly, surviving_spouse, head_of_household}
use Rattle.tax_2023.specs.Tables.{cents}
use Rattle.tax_2023.proofs.Ages.{first_of}
use Rattle.tax_2023.proofs.Spells.{IsWritten, around, written as written_tables}
use Rattle.tax_income.specs.Bands.{ends}
use Rattle.tax_2023.specs.declared.years.TaxYear.{TaxYear}
use Rattle.tax_2023.specs.declared.years.TaxYear.TheVariants.{Year2023}
use Rattle.tax_income.specs.Years.{IncomeYear, income_of}
use Rattle.tax_income.proofs.Rounding.{rise}

-- of the end of a band
pub record SpellsEnd (end : Status → ℕ) : Type 0 where
  pub couple : dollar_at (spelled_dollars (end jointly)) ≡ Some (cents (end jointly))
  pub head : dollar_at (spelled_dollars (end head_of_household)) ≡ Some (cents (end head_of_household))
  pub separate : dollar_at (spelled_dollars (end separately)) ≡ Some (cents (end separately))
  pub other : dollar_at (spelled_dollars (end single)) ≡ Some (cents (end single))
  -- a surviving spouse has that of a couple
  pub shared : end surviving_spouse ≡ end jointly

pub record IsWrittenIncome (y : IncomeYear) : Type 0 where
  pub tables : IsWritten y.tables
  pub end_10 : SpellsEnd y.end_10
  pub end_12 : SpellsEnd y.end_12
  pub end_22 : SpellsEnd y.end_22
  pub end_24 : SpellsEnd y.end_24
  pub end_32 : SpellsEnd y.end_32
  pub end_35 : SpellsEnd y.end_35
  pub under_17_after : day_at (spelled_day (y.tables.year - 17) (codes "-12-31")) ≡ Some (first_of (y.tables.year - 16) -ℤ pos 1)
  -- no end is over 1,000,000, and they rise
  pub few : (s : Status) → IsTrue (list_all (λ e. nat_le e 1000000) (ends y s))
  pub rises : (s : Status) → IsTrue (rise 0 (ends y s))

-- ---- each year is written so: clauses for the first, and one for all others

few : (y : TaxYear) (s : Status) → IsTrue (list_all (λ e. nat_le e 1000000) (ends (income_of y) s))
few Year2023 single = refl
few y single = refl
few y s = refl

rises : (y : TaxYear) (s : Status) → IsTrue (rise 0 (ends (income_of y) s))
rises Year2023 single = refl
rises y single = refl
rises y s = refl

pub written : (y : TaxYear) → IsWrittenIncome (income_of y)
unfolding spelled_dollars spelled_day
written Year2023 = record {
  tables = written_tables Year2023;
  end_10 = record { couple = refl; head = refl; separate = refl; other = refl; shared = refl };
  end_12 = record { couple = refl; head = refl; separate = refl; other = refl; shared = refl };
  end_22 = record { couple = refl; head = refl; separate = refl; other = refl; shared = refl };
  end_24 = record { couple = refl; head = refl; separate = refl; other = refl; shared = refl };
  end_32 = record { couple = refl; head = refl; separate = refl; other = refl; shared = refl };
  end_35 = record { couple = refl; head = refl; separate = refl; other = refl; shared = refl };
  under_17_after = ap (λ n. Some (n -ℤ pos 1)) (around ((income_of Year2023).tables.year - 16));
  few = few Year2023;
  rises = rises Year2023;
}
written y = record {
  tables = written_tables y;
  end_10 = record { couple = refl; head = refl; separate = refl; other = refl; shared = refl };
  end_12 = record { couple = refl; head = refl; separate = refl; other = refl; shared = refl };
  end_22 = record { couple = refl; head = refl; separate = refl; other = refl; shared = refl };
  end_24 = record { couple = refl; head = refl; separate = refl; other = refl; shared = refl };
  end_32 = record { couple = refl; head = refl; separate = refl; other = refl; shared = refl };
  end_35 = record { couple = refl; head = refl; separate = refl; other = refl; shared = refl };
  under_17_after = ap (λ n. Some (n -ℤ pos 1)) (around ((income_of y).tables.year - 16));
  few = few y;
  rises = rises y;
}
