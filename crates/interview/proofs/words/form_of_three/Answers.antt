use Rattle.interview.proofs.words.form_of_three.Goals as goal

pub returns-in-text : goal.returns-in-text
returns-in-text c = rw c.in-text.is c.form_of_carried_year.ensures
