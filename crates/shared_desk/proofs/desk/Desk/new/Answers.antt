use Rattle.dict_meaning.proofs.FitStart.{start_fits}
use Rattle.shared_desk.proofs.desk.Desk.new.Goals as goal

pub resume-requires-clause-fit : goal.resume-requires-clause-fit
resume-requires-clause-fit g c = rw c.new.ensures (start_fits _)
