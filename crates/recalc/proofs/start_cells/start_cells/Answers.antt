use Rattle.dict_meaning.proofs.FitStart.{start_fits}
use Rattle.recalc.proofs.start_cells.start_cells.Goals as goal

pub first_cells_uncounted-requires-clause-fit : goal.first_cells_uncounted-requires-clause-fit
first_cells_uncounted-requires-clause-fit c = rw c.new-answers.ensures (start_fits _)

pub returns : goal.returns
returns c = rw c.new-answers.ensures at c.first_cells_uncounted.ensures
