use Rattle.tax_2023.specs.Laws.{IsOfYear}
use Rattle.tax_2023.specs.Years.{tables_of}
use Rattle.tax_income.specs.Laws.{IsOfIncome}
use Rattle.tax_income.specs.Years.{income_of}
use Rattle.built_in.proofs.BroughtLaws.{brings, brings_no_check, income_checks_none, year_checks_none}
use Rattle.built_in.proofs.built_in.bring.Goals as goal

pub returns-in-Year : goal.returns-in-Year
returns-in-Year c =
    let y = tables_of c.in-Year.year in
    record {
      accepted = rw c.in-Year.is (brings (IsOfYear y) c.year_dictionary.result c.year_dictionary.ensures.of_year c.year_dictionary.ensures.checks);
      no_check = brings_no_check (IsOfYear y) (year_checks_none y) c.year_dictionary.result c.year_dictionary.ensures.of_year;
    }

pub returns-in-Income : goal.returns-in-Income
returns-in-Income c =
    let y = income_of c.in-Income.year in
    record {
      accepted = rw c.in-Income.is (brings (IsOfIncome y) c.income_dictionary.result c.income_dictionary.ensures.of_income c.income_dictionary.ensures.checks);
      no_check = brings_no_check (IsOfIncome y) (income_checks_none y) c.income_dictionary.result c.income_dictionary.ensures.of_income;
    }
