use Rattle.std.proofs.Common.{refl, sym}
use Rattle.interview.proofs.WordLaws.{no_carried_year}
use Rattle.interview.proofs.words.form_of_carried_year.Goals as goal

pub returns-in-Some : goal.returns-in-Some
returns-in-Some c = (c.args.year.now, refl, sym c.in-Some.ensures)

pub returns-in-None : goal.returns-in-None
returns-in-None c = no_carried_year c.args.year.now c.args.saved.now c.in-None.ensures
