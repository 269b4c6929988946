use Rattle.std.proofs.Common.{◌∙◌}
use Rattle.answers.specs.Meaning.{answered}
use Rattle.dictionary.specs.AcceptedParts.{accepted}
use Rattle.graph_session.proofs.CountLaws.{offered_stamp}
use Rattle.graph_session.proofs.session.Session.stamp.Goals as goal

pub returns : goal.returns
returns g c =
    let d = accepted c.self.inside.dict in
    let a = answered c.self.inside.answers in
    rw (← c.self.view_is) (c.stamp.ensures d a c.self.invariant.1 ∙ offered_stamp d a (g.E.FactEngine.marks c.self.inside.engine) g.E.FactEngine.STAMPS c.args.slot)
