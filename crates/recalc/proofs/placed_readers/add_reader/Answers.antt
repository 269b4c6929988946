use Rattle.std.proofs.Common.{refl}
use Rattle.dictionary.specs.AcceptedParts.{accepted}
use Rattle.recalc.proofs.PlacingLaws.{one_placed}
use Rattle.recalc.proofs.placed_readers.add_reader.Goals as goal

pub returns-in_ok-push-in-Some : goal.returns-in_ok-push-in-Some
returns-in_ok-push-in-Some c = λ all left are.
    one_placed (accepted c.args.dict.now) c.args.places.now c.args.fact all left c.args.reader c.args.row.now
    (record { places = c.push.new.self; others = c.args.row.now.others }) are c.in-Some.place c.in-Some.ensures c.in_ok-push-in-Some.ensures.items refl
