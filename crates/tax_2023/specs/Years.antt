-- The written tables of each year, in dollars. Their numbers stand in the module `years`, a figure a line.
use Rattle.std.specs.Prelude.{ℕ, ◌+◌, ◌-◌, ◌*◌, nat_le, ◌&&◌, if◌then◌else◌, List, [], ◌∷◌, map, codes, Option}
use Rattle.fact_json.specs.Names.{under_name}
use Rattle.written_facts.specs.Figures.{Named, text_under}
use Rattle.tax_2023.specs.Household.{Status, single, separately, jointly, surviving_spouse, head_of_household}
use Rattle.tax_2023.specs.declared.years.TaxYear.{TaxYear}
use Rattle.tax_2023.specs.declared.years.TaxYear.TheVariants.{Year2023, Year2024}
use Rattle.tax_2023.specs.declared.years.TheConstants.{FIGURES_2023, FIGURES_2024, YEARS}

pub record Year : Type 0 where
  pub year : ℕ
  -- the standard deduction without boxes
  pub basic : Status → ℕ
  -- more of it for each box
  pub box : Status → ℕ
  -- without boxes, that of a filer who can be claimed is the greater of an amount and of earned income with another one
  pub claimed_at_least : ℕ
  pub claimed_above_earned : ℕ
  -- the gross income that a qualifying relative stays below
  pub gross_income_limit : ℕ

-- ---- amounts

-- the number that the digits at the front spell, behind this one
abbrev pub number_from : ℕ → List ℕ → ℕ
number_from n [] = n
number_from n (c ∷ cs) = if nat_le 48 c && nat_le c 57 then number_from (n * 10 + (c - 48)) cs else n

-- the whole dollars of the figure with this name
abbrev pub dollars_under : List Named → List ℕ → ℕ
dollars_under fs name = number_from 0 (text_under fs name)

-- ---- the tables with these figures

-- Publication 501, standard deduction chart for most people
abbrev pub basic_in : List Named → Status → ℕ
basic_in fs single = dollars_under fs (codes "basic, single or separately")
basic_in fs separately = dollars_under fs (codes "basic, single or separately")
basic_in fs jointly = dollars_under fs (codes "basic, jointly or surviving spouse")
basic_in fs surviving_spouse = dollars_under fs (codes "basic, jointly or surviving spouse")
basic_in fs head_of_household = dollars_under fs (codes "basic, head of household")

-- the same, chart for people who have reached 65, or who are blind
abbrev pub box_in : List Named → Status → ℕ
box_in fs single = dollars_under fs (codes "box, unmarried")
box_in fs separately = dollars_under fs (codes "box, others")
box_in fs jointly = dollars_under fs (codes "box, others")
box_in fs surviving_spouse = dollars_under fs (codes "box, others")
box_in fs head_of_household = dollars_under fs (codes "box, unmarried")

abbrev pub tables_in : ℕ → List Named → Year
tables_in year fs = record {
  year = year;
  basic = basic_in fs;
  box = box_in fs;
  -- the same, standard deduction worksheet for dependents
  claimed_at_least = dollars_under fs (codes "claimed, at least");
  claimed_above_earned = dollars_under fs (codes "claimed, above earned income");
  -- the same, gross income test of a qualifying relative
  gross_income_limit = dollars_under fs (codes "gross income below");
}

-- ---- the years

-- the number of the year, and its figures
abbrev pub written_for : TaxYear → ℕ × List Named
written_for Year2023 = (2023, map (λ f. (f.0.now, f.1.now)) FIGURES_2023)
written_for Year2024 = (2024, map (λ f. (f.0.now, f.1.now)) FIGURES_2024)

abbrev pub tables_of : TaxYear → Year
tables_of y = tables_in (written_for y).0 (written_for y).1

-- the years by their words
abbrev pub year_words : List (List ℕ × TaxYear)
year_words = map (λ y. (y.0.now, y.1)) YEARS

abbrev pub year_of_word : List ℕ → Option TaxYear
year_of_word word = under_name word year_words
