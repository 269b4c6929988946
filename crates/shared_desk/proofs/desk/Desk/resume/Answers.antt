use Rattle.shared_desk.proofs.KeptLaws.{stands_begun}
use Rattle.shared_desk.proofs.desk.Desk.resume.Goals as goal

pub returns-clause-begun : goal.returns-clause-begun
returns-clause-begun g c = stands_begun c.args.dict _ _ g.E.FactEngine.STAMPS c.in_ok-session.ensures c.requires.stamped c.new.ensures.items c.new-2.ensures.items c.new-3.ensures
