use Rattle.tax_2023.proofs.Complete.{household_is_there}
use Rattle.tax_2023.proofs.Example.{household_answers}
use Rattle.tax_2023.proofs.TableLaw.{statuses_are_named, year_tables_hold}
use Rattle.tax_2023.specs.Years.{tables_of}
use Rattle.tax_2023.proofs.laws.tables_of_years.Goals as goal

pub returns-clause-tables : goal.returns-clause-tables
returns-clause-tables c = year_tables_hold

pub returns-clause-names : goal.returns-clause-names
returns-clause-names c = λ y. statuses_are_named (tables_of y)

pub returns-clause-households : goal.returns-clause-households
returns-clause-households c = λ y. household_is_there (tables_of y)

pub returns-clause-answered : goal.returns-clause-answered
returns-clause-answered c = λ y. household_answers (tables_of y)
