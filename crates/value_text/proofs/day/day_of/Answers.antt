use Rattle.std.proofs.Common.{◌≡◌, pos, arith, to_z, w64}
use Rattle.std.proofs.lemmas.Int.{ints}
use Rattle.value_text.proofs.DateLemmas.{day_of_date-counted}
use Rattle.value_text.proofs.day.day_of.Goals as goal

pub returns : goal.returns
returns c =
    let year : to_z w64 c.args.year ≡ pos c.args.year = grind (arith, ints) in
    let month : to_z w64 c.args.month ≡ pos c.args.month = grind (arith, ints) in
    let day : to_z w64 c.args.day ≡ pos c.args.day = grind (arith, ints) in
    day_of_date-counted c.new.result c.args.year c.args.month c.args.day _ _ _ year month day (c.new.ensures.accepted, c.new.ensures.value)
