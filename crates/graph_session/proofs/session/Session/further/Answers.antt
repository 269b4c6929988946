use Rattle.std.proofs.Common.{◌∙◌}
use Rattle.answers.specs.Meaning.{answered}
use Rattle.dict_meaning.proofs.FitStart.{start_fits}
use Rattle.session_undo.specs.History.{place}
use Rattle.session_undo.specs.Timeline.{timeline}
use Rattle.graph_session.proofs.SessionViewLaws.{shown_same}
use Rattle.graph_session.proofs.session.Session.further.Goals as goal

pub further-requires : goal.further-requires
further-requires g c = rw c.in_ok-dict.ensures (answered c.self.inside.answers, c.self.invariant.1)

pub of_parts-requires-clause-fit : goal.of_parts-requires-clause-fit
of_parts-requires-clause-fit g c = rw c.new.ensures (start_fits _)

pub returns-clause-same : goal.returns-clause-same
returns-clause-same g c =
    let k = c.self.inside.dict in
    let p = place c.self.inside.history c.self.inside.answers in
    let m = g.E.FactEngine.marks c.self.inside.engine in
    let n = g.E.FactEngine.marks c.further.new.self in
    shown_same k (timeline p) c.self.inside.changes g.E.FactEngine.STAMPS m n c.further.ensures.same_marks ∙ c.self.view_is
