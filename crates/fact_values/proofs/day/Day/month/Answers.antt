use Rattle.std.proofs.Common.{◌≡◌, pos, w64, to_z, of_z, arith}
use Rattle.std.proofs.lemmas.Int.{ints}
use Rattle.fact_values.proofs.day.Day.month.Goals as goal

pub returns : goal.returns
returns c =
    let e : to_z w64 (of_z w64 c.from.result) ≡ pos c.date.result.month = omega (arith, ints) in
    (c.date.result.year, pos c.date.result.day, rw e c.date.ensures)
