-- What comes with the program is accepted, and names no check.
use Rattle.std.proofs.Common.{◌≡◌, false, [], Result, Ok, Err, refl, ap, ◌∙◌}
use Rattle.std.specs.Prelude.{IfOk}
use Rattle.fact_values.specs.declared.memory.NoMemory.{NoMemory}
use Rattle.dict_meaning.specs.Accepted.{Accepted}
use Rattle.dictionary.specs.AcceptedParts.{AcceptedParts, accepted}
use Rattle.dictionary.specs.Checks.{has_check}
use Rattle.tax_2023.specs.Facts.{dictionary}
use Rattle.tax_2023.specs.Figures.{figures}
use Rattle.tax_2023.specs.Laws.{IsOfYear}
use Rattle.tax_2023.specs.Years.{Year}
use Rattle.tax_income.specs.Facts.{dictionary_of}
use Rattle.tax_income.specs.Laws.{IsOfIncome}
use Rattle.tax_income.specs.Years.{IncomeYear}

-- it is accepted as this
pub brings : (IsThis : Accepted → Type 0) (r : Result AcceptedParts NoMemory) → IfOk r (λ d. IsThis (accepted d)) → IfOk r (λ d. d.checks ≡ []) → IfOk r (λ d. IsThis (accepted d) × (d.checks ≡ []))
brings IsThis (Ok d) h k = (h, k)
brings IsThis (Err fault) h k = tt

-- and names no check
pub brings_no_check : (IsThis : Accepted → Type 0) → ((d : Accepted) → IsThis d → has_check d.tree ≡ false) → (r : Result AcceptedParts NoMemory) → IfOk r (λ d. IsThis (accepted d)) → IfOk r (λ d. has_check (accepted d).tree ≡ false)
brings_no_check IsThis none (Ok d) h = none (accepted d) h
brings_no_check IsThis none (Err fault) h = tt

year_names_none : (y : Year) → has_check (dictionary (figures y)) ≡ false
year_names_none y = refl

income_names_none : (y : IncomeYear) → has_check (dictionary_of y) ≡ false
income_names_none y = refl

pub year_checks_none : (y : Year) (d : Accepted) → IsOfYear y d → has_check d.tree ≡ false
year_checks_none y d is = ap has_check is.facts ∙ year_names_none y

pub income_checks_none : (y : IncomeYear) (d : Accepted) → IsOfIncome y d → has_check d.tree ≡ false
income_checks_none y d is = ap has_check is.facts ∙ income_names_none y
