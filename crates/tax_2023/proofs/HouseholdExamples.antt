-- The printed charts, and households worked by hand from them.
use Rattle.std.proofs.Common.{◌≡◌, ℕ, ◌+◌, ◌-◌, ◌*◌, pos, int_lt, true, false, not, List, [], ◌∷◌, refl, sym, ap}
use Rattle.value_text.specs.Dates.{date_number}
use Rattle.tax_2023.specs.Household.{DayNumber, Household, Status, single, separately, jointly, surviving_spouse, head_of_household}
use Rattle.tax_2023.specs.Years.{Year, tables_of}
use Rattle.tax_2023.specs.declared.years.TaxYear.TheVariants.{Year2023, Year2024}
use Rattle.tax_2023.specs.Tables.{boxes, deduction, is_head_of_household, is_joint, is_old, is_surviving_spouse, is_unmarried, status, taxable_income}
use Rattle.tax_2023.proofs.Spells.{around}

-- by a number that computes
old_by : (y : Year) (born : DayNumber) → is_old y born ≡ not (int_lt (date_number (y.year + 1 - 65) 1 1) born)
unfolding is_old
old_by y born = ap (λ n. not (int_lt n born)) (sym (around (y.year + 1 - 65)))

-- ---- the printed charts: single, separately, jointly, surviving spouse, head of household

abbrev by_status : (Status → ℕ) → List ℕ
by_status amount = amount single ∷ amount separately ∷ amount jointly ∷ amount surviving_spouse ∷ amount head_of_household ∷ []

-- what can be claimed, at least and above earned income, and the limit of gross income
abbrev others : Year → List ℕ
others y = y.claimed_at_least ∷ y.claimed_above_earned ∷ y.gross_income_limit ∷ []

basic_in_2023 : by_status (tables_of Year2023).basic ≡ 13850 ∷ 13850 ∷ 27700 ∷ 27700 ∷ 20800 ∷ []
basic_in_2023 = refl

box_in_2023 : by_status (tables_of Year2023).box ≡ 1850 ∷ 1500 ∷ 1500 ∷ 1500 ∷ 1850 ∷ []
box_in_2023 = refl

others_in_2023 : others (tables_of Year2023) ≡ 1250 ∷ 400 ∷ 4700 ∷ []
others_in_2023 = refl

basic_in_2024 : by_status (tables_of Year2024).basic ≡ 14600 ∷ 14600 ∷ 29200 ∷ 29200 ∷ 21900 ∷ []
basic_in_2024 = refl

box_in_2024 : by_status (tables_of Year2024).box ≡ 1950 ∷ 1550 ∷ 1550 ∷ 1550 ∷ 1950 ∷ []
box_in_2024 = refl

others_in_2024 : others (tables_of Year2024) ≡ 1300 ∷ 450 ∷ 5050 ∷ []
others_in_2024 = refl

-- ---- a single filer, blind, who turned 65 on the first of January, or on the second

abbrev blind_filer : DayNumber → Household
blind_filer born = record {
  date_of_birth = born;
  blind = true;
  spouse_date_of_birth = date_number 1950 1 1;
  spouse_blind = true;
  married = false;
  considered_unmarried = false;
  file_jointly = false;
  spouse_died = false;
  remarried = false;
  child_in_home = false;
  paid_half_of_home = false;
  qualifying_person = false;
  spouse_itemizes = false;
  can_be_claimed = false;
  earned_income = pos 0;
  other_income = pos 0;
  persons = [];
}

-- 13,850 and two boxes of 1,850; the boxes of a spouse who isn't there don't count
born_on_the_first : deduction (tables_of Year2023) (blind_filer (date_number 1959 1 1)) ≡ pos 1755000
unfolding deduction boxes status is_joint is_unmarried is_surviving_spouse is_head_of_household
born_on_the_first = rw (old_by (tables_of Year2023) (date_number 1959 1 1)) refl

born_on_the_second : deduction (tables_of Year2023) (blind_filer (date_number 1959 1 2)) ≡ pos 1570000
unfolding deduction boxes status is_joint is_unmarried is_surviving_spouse is_head_of_household
born_on_the_second = rw (old_by (tables_of Year2023) (date_number 1959 1 2)) refl

-- a year later the limit is a year later too: 14,600 and two boxes of 1,950
the_next_year : deduction (tables_of Year2024) (blind_filer (date_number 1960 1 1)) ≡ pos 1850000
unfolding deduction boxes status is_joint is_unmarried is_surviving_spouse is_head_of_household
the_next_year = rw (old_by (tables_of Year2024) (date_number 1960 1 1)) refl

-- ---- a young filer who can be claimed: earned income and 400, at least 1,250 and at most 13,850

abbrev claimed_filer : ℕ → Household
claimed_filer dollars = record (blind_filer (date_number 2000 1 1)) { blind = false; can_be_claimed = true; earned_income = pos (dollars * 100) }

with_some_income : deduction (tables_of Year2023) (claimed_filer 900) ≡ pos 130000
unfolding deduction boxes status is_joint is_unmarried is_surviving_spouse is_head_of_household
with_some_income = rw (old_by (tables_of Year2023) (date_number 2000 1 1)) refl

without_income : deduction (tables_of Year2023) (claimed_filer 0) ≡ pos 125000
unfolding deduction boxes status is_joint is_unmarried is_surviving_spouse is_head_of_household
without_income = rw (old_by (tables_of Year2023) (date_number 2000 1 1)) refl

with_much_income : deduction (tables_of Year2023) (claimed_filer 20000) ≡ pos 1385000
unfolding deduction boxes status is_joint is_unmarried is_surviving_spouse is_head_of_household
with_much_income = rw (old_by (tables_of Year2023) (date_number 2000 1 1)) refl

-- ---- a couple that files jointly, both 65 or older: 27,700 and two boxes of 1,500 off 55,000.50

abbrev couple : Household
couple = record (blind_filer (date_number 1955 3 10)) {
  blind = false;
  spouse_date_of_birth = date_number 1957 7 4;
  spouse_blind = false;
  married = true;
  file_jointly = true;
  earned_income = pos 5200000;
  other_income = pos 300050;
}

files_jointly : status couple ≡ jointly
unfolding status is_joint
files_jointly = refl

two_boxes : taxable_income (tables_of Year2023) couple ≡ pos 2430050
unfolding taxable_income deduction boxes status is_joint is_unmarried is_surviving_spouse is_head_of_household
two_boxes = rw (old_by (tables_of Year2023) (date_number 1955 3 10), old_by (tables_of Year2023) (date_number 1957 7 4)) refl
