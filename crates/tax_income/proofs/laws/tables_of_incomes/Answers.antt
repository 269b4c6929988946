use Rattle.tax_income.proofs.IncomeExample.{household_answers}
use Rattle.tax_income.specs.Years.{income_of}
use Rattle.tax_income.proofs.IncomeLaw.{household_is_there, income_year_tables_hold}
use Rattle.tax_income.proofs.Rounding.{are_least}
use Rattle.tax_income.proofs.laws.tables_of_incomes.Goals as goal

pub returns-clause-tables : goal.returns-clause-tables
returns-clause-tables c = income_year_tables_hold

pub returns-clause-households : goal.returns-clause-households
returns-clause-households c = λ y. household_is_there (income_of y)

pub returns-clause-thousands : goal.returns-clause-thousands
returns-clause-thousands c = are_least

pub returns-clause-answered : goal.returns-clause-answered
returns-clause-answered c = λ y. household_answers (income_of y)
