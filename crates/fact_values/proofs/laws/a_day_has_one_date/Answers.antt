use Rattle.fact_values.proofs.Days.{IsDateOf-only, year_of-date}
use Rattle.fact_values.proofs.laws.a_day_has_one_date.Goals as goal

pub returns : goal.returns
returns c = record { only = IsDateOf-only; year = year_of-date }
