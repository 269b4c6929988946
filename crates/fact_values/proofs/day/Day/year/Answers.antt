use Rattle.std.proofs.Common.{◌≡◌, pos, w64, to_z, of_z, sym, ◌∙◌, arith}
use Rattle.std.proofs.lemmas.Int.{ints}
use Rattle.fact_values.proofs.Days.{year_of-date}
use Rattle.fact_values.proofs.day.Day.year.Goals as goal

pub returns : goal.returns
returns c =
    let e : to_z w64 (of_z w64 c.from.result) ≡ c.date.result.year = omega (arith, ints) in
    record {
      value = e ∙ sym (year_of-date _ _ _ _ c.date.ensures);
      date = (pos c.date.result.month, pos c.date.result.day, rw e c.date.ensures);
    }
