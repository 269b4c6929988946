use Rattle.std.proofs.Common.{◌≡◌, subst, rules}
use Rattle.jiff_core.specs.Date.{epoch_day}
use Rattle.fact_values.specs.Days.{IsDay}
use Rattle.fact_values.proofs.Days.{IsDateOf-epoch_day}
use Rattle.fact_values.proofs.day.Day.date.Goals as goal

pub returns : goal.returns
returns c =
    let e : epoch_day c.unwrap.result ≡ c.args.self = search rules in
    IsDateOf-epoch_day c.unwrap.result _ (subst IsDay c.self.view_is c.self.invariant) e
