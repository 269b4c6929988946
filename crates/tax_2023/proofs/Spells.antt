-- The figures of a year spell the numbers and days of its tables.
use Rattle.std.proofs.Common.{◌≡◌, ℕ, ◌+◌, ◌-◌, ◌≤◌, IsTrue, nat_le, pos, ◌+ℤ◌, ◌-ℤ◌, Some, codes, refl, ap, arith}
use Rattle.std.proofs.lemmas.Bool.Decides.{nat_tests}
use Rattle.value_text.specs.Dates.{date_number, day_at}
use Rattle.value_text.specs.Dollars.{dollar_at}
use Rattle.value_text.proofs.DateLemmas.{date_number-number_of}
use Rattle.tax_2023.specs.Household.{single, separately, jointly, surviving_spouse, head_of_household}
use Rattle.tax_2023.specs.Years.{Year, tables_of}
use Rattle.tax_2023.specs.declared.years.TaxYear.{TaxYear}
use Rattle.tax_2023.specs.declared.years.TaxYear.TheVariants.{Year2023}
use Rattle.tax_2023.specs.Tables.{cents}
use Rattle.tax_2023.specs.Figures.{spelled_day, spelled_dollars}
use Rattle.tax_2023.proofs.Ages.{first_of}

pub record Spells (y : Year) : Type 0 where
  pub basic_single : dollar_at (spelled_dollars (y.basic single)) ≡ Some (cents (y.basic single))
  pub basic_jointly : dollar_at (spelled_dollars (y.basic jointly)) ≡ Some (cents (y.basic jointly))
  pub basic_head : dollar_at (spelled_dollars (y.basic head_of_household)) ≡ Some (cents (y.basic head_of_household))
  pub box_single : dollar_at (spelled_dollars (y.box single)) ≡ Some (cents (y.box single))
  pub box_separately : dollar_at (spelled_dollars (y.box separately)) ≡ Some (cents (y.box separately))
  pub claimed_at_least : dollar_at (spelled_dollars y.claimed_at_least) ≡ Some (cents y.claimed_at_least)
  pub claimed_above : dollar_at (spelled_dollars y.claimed_above_earned) ≡ Some (cents y.claimed_above_earned)
  pub gross_below : dollar_at (spelled_dollars y.gross_income_limit) ≡ Some (cents y.gross_income_limit)
  pub old_before : day_at (spelled_day (y.year - 64) (codes "-01-02")) ≡ Some (first_of (y.year + 1 - 65) +ℤ pos 1)
  pub under_19_after : day_at (spelled_day (y.year - 19) (codes "-12-31")) ≡ Some (first_of (y.year - 18) -ℤ pos 1)
  pub under_24_after : day_at (spelled_day (y.year - 24) (codes "-12-31")) ≡ Some (first_of (y.year - 23) -ℤ pos 1)

-- statuses that have one figure have one amount
pub record Shares (y : Year) : Type 0 where
  pub basic_separately : y.basic separately ≡ y.basic single
  pub basic_surviving : y.basic surviving_spouse ≡ y.basic jointly
  pub box_head : y.box head_of_household ≡ y.box single
  pub box_jointly : y.box jointly ≡ y.box separately
  pub box_surviving : y.box surviving_spouse ≡ y.box separately

-- no number of the year is over 100,000, and the year is near
pub record IsSmall (y : Year) : Type 0 where
  pub basic_single : y.basic single ≤ 100000
  pub basic_jointly : y.basic jointly ≤ 100000
  pub basic_head : y.basic head_of_household ≤ 100000
  pub box_single : y.box single ≤ 100000
  pub box_separately : y.box separately ≤ 100000
  pub claimed_at_least : y.claimed_at_least ≤ 100000
  pub claimed_above : y.claimed_above_earned ≤ 100000
  pub from : 1900 ≤ y.year
  pub until : y.year ≤ 2199

pub record IsWritten (y : Year) : Type 0 where
  pub spells : Spells y
  pub shares : Shares y
  pub small : IsSmall y

-- the number of a day before 1 January, and of the day behind it
pub around : (year : ℕ) → date_number year 1 1 ≡ first_of year
around year = date_number-number_of year 1 1 (omega arith) (omega arith) (omega arith)

-- ---- each year is written so: a clause for the first, and one for all others

spells : (y : TaxYear) → Spells (tables_of y)
unfolding spelled_dollars spelled_day
spells Year2023 = record {
  basic_single = refl;
  basic_jointly = refl;
  basic_head = refl;
  box_single = refl;
  box_separately = refl;
  claimed_at_least = refl;
  claimed_above = refl;
  gross_below = refl;
  old_before = ap (λ n. Some (n +ℤ pos 1)) (around 1959);
  under_19_after = ap (λ n. Some (n -ℤ pos 1)) (around 2005);
  under_24_after = ap (λ n. Some (n -ℤ pos 1)) (around 2000);
}
spells y = record {
  basic_single = refl;
  basic_jointly = refl;
  basic_head = refl;
  box_single = refl;
  box_separately = refl;
  claimed_at_least = refl;
  claimed_above = refl;
  gross_below = refl;
  old_before = ap (λ n. Some (n +ℤ pos 1)) (around ((tables_of y).year - 64));
  under_19_after = ap (λ n. Some (n -ℤ pos 1)) (around ((tables_of y).year - 18));
  under_24_after = ap (λ n. Some (n -ℤ pos 1)) (around ((tables_of y).year - 23));
}

shares : (y : TaxYear) → Shares (tables_of y)
shares y = record { basic_separately = refl; basic_surviving = refl; box_head = refl; box_jointly = refl; box_surviving = refl }

at_most : (n m : ℕ) → IsTrue (nat_le n m) → n ≤ m
at_most n m h = grind (arith, nat_tests)

small : (y : TaxYear) → IsSmall (tables_of y)
small Year2023 = record {
  basic_single = at_most _ _ refl;
  basic_jointly = at_most _ _ refl;
  basic_head = at_most _ _ refl;
  box_single = at_most _ _ refl;
  box_separately = at_most _ _ refl;
  claimed_at_least = at_most _ _ refl;
  claimed_above = at_most _ _ refl;
  from = at_most _ _ refl;
  until = at_most _ _ refl;
}
small y = record {
  basic_single = at_most _ _ refl;
  basic_jointly = at_most _ _ refl;
  basic_head = at_most _ _ refl;
  box_single = at_most _ _ refl;
  box_separately = at_most _ _ refl;
  claimed_at_least = at_most _ _ refl;
  claimed_above = at_most _ _ refl;
  from = at_most _ _ refl;
  until = at_most _ _ refl;
}

pub written : (y : TaxYear) → IsWritten (tables_of y)
written y = record { spells = spells y; shares = shares y; small = small y }
