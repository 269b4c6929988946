use Rattle.fact_values.proofs.Days.{IsDay-years}
use Rattle.fact_values.proofs.laws.range_is_of_years.Goals as goal

pub returns : goal.returns
returns c = IsDay-years
