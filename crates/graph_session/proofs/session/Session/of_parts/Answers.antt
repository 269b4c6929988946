use Rattle.std.proofs.Common.{refl}
use Rattle.answers.specs.Meaning.{answered}
use Rattle.dictionary.specs.AcceptedParts.{accepted}
use Rattle.graph_session.proofs.CountLaws.{fresh_offered}
use Rattle.graph_session.proofs.session.Session.of_parts.Goals as goal

pub returns : goal.returns
returns g c =
    let d = accepted c.args.dict in
    let a = answered c.args.answers in
    rw (c.new.ensures.back, c.new.ensures.ahead, fresh_offered d a (g.E.FactEngine.marks c.args.engine) g.E.FactEngine.STAMPS c.requires.fresh) refl
