use Rattle.law_arithmetic.proofs.MonthLemmas.{only_months_later, only_years_later, twelve_months}
use Rattle.law_arithmetic.proofs.laws.one_date_is_later.Goals as goal

pub returns : goal.returns
returns c = record { months = only_months_later; years = only_years_later; twelve = twelve_months }
