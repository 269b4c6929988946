use Rattle.dict_meaning.proofs.FitStart.{start_fits}
use Rattle.graph_session.proofs.session.Session.new.Goals as goal

pub resume-requires : goal.resume-requires
resume-requires g c = rw c.new.ensures (start_fits _)
