-- The dictionaries that come with the program and the library.
use Rattle.std.specs.Prelude.{ℕ, List, codes, map, Option, Some, None, option_map}
use Rattle.fact_paths.specs.Cuts.{after}
use Rattle.dict_source.specs.Dictionary.{Dictionary as Tree}
use Rattle.fact_json.specs.Names.{under_name}
use Rattle.dict_meaning.specs.Accepted.{Accepted}
use Rattle.tax_2023.specs.Facts.{dictionary}
use Rattle.tax_2023.specs.Figures.{figures}
use Rattle.tax_2023.specs.Laws.{IsOfYear}
use Rattle.tax_2023.specs.Years.{tables_of, year_of_word}
use Rattle.tax_2023.specs.declared.years.TaxYear.{TaxYear}
use Rattle.tax_income.specs.Facts.{dictionary_of}
use Rattle.tax_income.specs.Laws.{IsOfIncome}
use Rattle.tax_income.specs.Years.{income_of}
use Rattle.built_in.specs.declared.built_in.BuiltIn.{BuiltIn}
use Rattle.built_in.specs.declared.built_in.BuiltIn.TheVariants.{Year, Income}
use Rattle.built_in.specs.declared.built_in.TheConstants.{PROGRAM_INCOMES}

-- what stands behind `year`, or behind `income`, is the word of a year
abbrev pub built_in_behind : Option (List ℕ) → Option (List ℕ) → Option BuiltIn
built_in_behind (Some word) income = option_map Year (year_of_word word)
built_in_behind None (Some word) = option_map Income (year_of_word word)
built_in_behind None None = None

-- the dictionary of these words
abbrev pub built_in_of : List ℕ → Option BuiltIn
built_in_of words = built_in_behind (after (codes "year ") words) (after (codes "income ") words)

-- the year of this word, where the program has words for its income
abbrev pub program_income_of : List ℕ → Option TaxYear
program_income_of word = under_name word (map (λ y. (y.0.now, y.1)) PROGRAM_INCOMES)

-- its facts
unfoldable pub facts_of : BuiltIn → Tree
facts_of (Year y) = dictionary (figures (tables_of y))
facts_of (Income y) = dictionary_of (income_of y)

-- it is accepted with these facts
abbrev pub IsBrought : BuiltIn → Accepted → Type 0
IsBrought (Year y) d = IsOfYear (tables_of y) d
IsBrought (Income y) d = IsOfIncome (income_of y) d
