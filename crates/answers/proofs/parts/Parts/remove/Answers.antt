use Rattle.std.proofs.Common.{◌∙◌, refl, ap}
use Rattle.std.specs.FinMap as map
use Rattle.answers.specs.Answered.{list_of}
use Rattle.answers.specs.Meaning.{answered, lists_of}
use Rattle.answers.proofs.ChangeLaws.{answered_same}
use Rattle.answers.proofs.ListLaws.{place_within, remove_place}
use Rattle.answers.proofs.LookUps.{open_place}
use Rattle.answers.proofs.parts.Parts.remove.Goals as goal

pub edit-requires-clause-place : goal.edit-requires-clause-place
edit-requires-clause-place c = open_place c.args.self.now.lists c.args.list c.requires.open

pub edit-requires-clause-fits : goal.edit-requires-clause-fits
edit-requires-clause-fits c = (c.requires.open, rw c.place_of-place.ensures (place_within c.args.member _ c.requires.fits))

pub returns-in-Some-clause-new : goal.returns-in-Some-clause-new
returns-in-Some-clause-new c =
    let own = list_of (answered c.args.self.now) c.args.list in
    answered_same _ _ refl
    (c.edit.ensures.new ∙ ap (λ xs. map.insert (lists_of c.args.self.now.lists) c.args.list xs) (rw c.place_of-place.ensures (remove_place c.args.member own c.requires.fits)))
    refl c.take.ensures.new
