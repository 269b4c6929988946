use Rattle.std.proofs.Common.{refl}
use Rattle.answers.proofs.LookUps.{open_place}
use Rattle.answers.proofs.RoomLaws.{slot_place}
use Rattle.answers.proofs.parts.Parts.apply.Goals as goal

pub edit-requires-in-CloseList-clause-place : goal.edit-requires-in-CloseList-clause-place
edit-requires-in-CloseList-clause-place c =
    let fits = rw c.in-CloseList.is at c.requires.fits in
    open_place c.args.self.now.lists c.in-CloseList.list (rw fits refl)

pub returns-in-Ok-clause-places : goal.returns-in-Ok-clause-places
returns-in-Ok-clause-places c = rw c.in-Value.is (λ some. c.in-Ok.ensures.place some, λ side stood. c.in-Ok.ensures.places (slot_place side c.args.self.now c.in-Value.slot stood))

pub returns-in-Ok-put_value-clause-places : goal.returns-in-Ok-put_value-clause-places
returns-in-Ok-put_value-clause-places c = rw c.in-Override.is (λ some. c.in-Ok-put_value.ensures.place some, λ side stood. c.in-Ok-put_value.ensures.places (slot_place side c.args.self.now c.in-Override.slot stood))
