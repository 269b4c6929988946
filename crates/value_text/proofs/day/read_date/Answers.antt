use Rattle.std.proofs.Common.{◌∙◌}
use Rattle.value_text.proofs.DateLemmas.{date_in-from}
use Rattle.value_text.proofs.day.read_date.Goals as goal

pub returns : goal.returns
returns c = c.day_of.ensures ∙ date_in-from c.args.text.now c.in_ok-year.year c.in_ok-month.month c.in_ok-day.day c.in_ok-year.ensures.value c.in_ok-month.ensures.value c.in_ok-day.ensures.value
