use Rattle.law_arithmetic.proofs.DateLemmas.{date_of-date}
use Rattle.law_arithmetic.proofs.laws.a_day_has_its_date.Goals as goal

pub returns : goal.returns
returns c = date_of-date
