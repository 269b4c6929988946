use Rattle.std.proofs.Common.{◌≡◌, refl, ap, sym, ◌∙◌, subst}
use Rattle.session_undo.specs.History.{place}
use Rattle.session_undo.specs.Timeline.{Timeline, timeline}
use Rattle.session_undo.specs.UndoState.{forgotten}
use Rattle.session_undo.proofs.TimelineLaws.{forgotten_timeline}
use Rattle.graph_session.specs.Keeping.{IsSound}
use Rattle.graph_session.proofs.SessionViewLaws.{place_forgotten, shown}
use Rattle.graph_session.proofs.SoundLaws.{sound_forgotten}
use Rattle.graph_session.proofs.session.Session.keep_changes.Goals as goal

pub invariant_of-self : goal.invariant_of-self
invariant_of-self g c =
    let k = c.self.inside.dict in
    let p = place c.self.inside.history c.self.inside.answers in
    let q = place c.keep_newest.new.self c.self.inside.answers in
    let same : q ≡ forgotten c.args.most p = place_forgotten p q c.args.most c.keep_newest.ensures.back refl c.keep_newest.ensures.ahead in
    (subst (IsSound k) (sym same) (sound_forgotten k p c.args.most c.self.invariant.0), c.self.invariant.1, c.self.invariant.2)

pub returns : goal.returns
returns g c =
    let k = c.self.inside.dict in
    let p = place c.self.inside.history c.self.inside.answers in
    let q = place c.keep_newest.new.self c.self.inside.answers in
    let same : q ≡ forgotten c.args.most p = place_forgotten p q c.args.most c.keep_newest.ensures.back refl c.keep_newest.ensures.ahead in
    let m = g.E.FactEngine.marks c.self.inside.engine in
    rw (← c.self.view_is) (ap (λ (t : Timeline). shown k t c.self.inside.changes g.E.FactEngine.STAMPS m) (ap timeline same ∙ forgotten_timeline c.args.most p))
