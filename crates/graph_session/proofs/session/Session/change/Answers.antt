use Rattle.std.proofs.Common.{◌≡◌, ◌+◌, ◌∷◌, List, ap, sym, ◌∙◌, subst, IsTrue}
use Rattle.answers.specs.Answered.{Answered}
use Rattle.answers.specs.Change.{Change, Fits, inverse}
use Rattle.answers.specs.Meaning.{answered, change}
use Rattle.session_undo.specs.History.{behind, place}
use Rattle.session_undo.specs.UndoState.{changed}
use Rattle.session_undo.specs.Timeline.{timeline}
use Rattle.session_undo.proofs.TimelineLaws.{timeline_changed}
use Rattle.dictionary.specs.AcceptedParts.{accepted, names_of}
use Rattle.dict_meaning.specs.Allowed.{IsAllowed}
use Rattle.dictionary.specs.Engines.{AreMarkedBy}
use Rattle.dict_meaning.proofs.FitChangeLaws.{allowed_changes_fit}
use Rattle.graph_session.specs.Keeping.{IsSound}
use Rattle.graph_session.specs.SessionView.{moved_to}
use Rattle.graph_session.proofs.SessionViewLaws.{place_changed, shown, shown_moved}
use Rattle.graph_session.proofs.SoundLaws.{sound_changed}
use Rattle.graph_session.proofs.session.Session.change.Goals as goal

pub refresh-requires-clause-fit_now : goal.refresh-requires-clause-fit_now
refresh-requires-clause-fit_now g c =
    let k = c.self.inside.dict in
    let a = answered c.self.inside.answers in
    let fits : Fits (change c.args.edit) a = (rw (← c.self.view_is) at c.requires.made).0 in
    let allowed : IsAllowed (accepted k) a (change c.args.edit) = (rw (← c.self.view_is) at c.requires.made).1 in
    rw c.in-Ok-apply.ensures.new (allowed_changes_fit (names_of k.checks) (accepted k) c.self.invariant.0.is_accepted a (change c.args.edit) c.self.invariant.0.fit.now fits allowed)

pub invariant_of-self-in-Ok-refresh : goal.invariant_of-self-in-Ok-refresh
invariant_of-self-in-Ok-refresh g c =
    let k = c.self.inside.dict in
    let p = place c.self.inside.history c.self.inside.answers in
    let q = place c.keep.new.history c.apply.new.self in
    let ch = change c.args.edit in
    let fits : Fits ch p.now = (rw (← c.self.view_is) at c.requires.made).0 in
    let allowed : IsAllowed (accepted k) p.now ch = (rw (← c.self.view_is) at c.requires.made).1 in
    let back : q.back ≡ inverse ch p.now ∷ p.back = c.keep.ensures.back ∙ ap (λ (x : Change). x ∷ behind c.room.new.self) c.in-Ok-apply.ensures.back ∙ ap (λ (xs : List Change). inverse ch p.now ∷ xs) c.in-Ok.ensures.back in
    let same : q ≡ changed p ch = place_changed p q ch back c.in-Ok-apply.ensures.new c.keep.ensures.ahead in (
      subst (IsSound k) (sym same) (sound_changed k p ch c.self.invariant.0 fits allowed),
      c.in-Ok-refresh.ensures.stands,
      λ offered. (c.in-Ok-refresh.ensures.marked offered).changes ∙ ap (λ n. n + 1) (c.self.invariant.2 offered),
    )

pub returns-in-Ok-refresh-clause-ok : goal.returns-in-Ok-refresh-clause-ok
returns-in-Ok-refresh-clause-ok g c =
    let k = c.self.inside.dict in
    let d = accepted k in
    let p = place c.self.inside.history c.self.inside.answers in
    let q = place c.keep.new.history c.apply.new.self in
    let ch = change c.args.edit in
    let offered = g.E.FactEngine.STAMPS in
    let m = g.E.FactEngine.marks c.self.inside.engine in
    let n = g.E.FactEngine.marks c.refresh.new.self in
    let fits : Fits ch p.now = (rw (← c.self.view_is) at c.requires.made).0 in
    let back : q.back ≡ inverse ch p.now ∷ p.back = c.keep.ensures.back ∙ ap (λ (x : Change). x ∷ behind c.room.new.self) c.in-Ok-apply.ensures.back ∙ ap (λ (xs : List Change). inverse ch p.now ∷ xs) c.in-Ok.ensures.back in
    let same : q ≡ changed p ch = place_changed p q ch back c.in-Ok-apply.ensures.new c.keep.ensures.ahead in
    let marked : IsTrue offered → AreMarkedBy d p.now q.now m n = λ o. subst (λ (a : Answered). AreMarkedBy d a q.now m n) c.in-Ok-apply.ensures.undoes.1 (c.in-Ok-refresh.ensures.marked o) in
    rw (← c.self.view_is) (shown_moved k (timeline p) (timeline q) c.self.inside.changes offered m n c.self.invariant.2 marked
    ∙ ap (moved_to (shown k (timeline p) c.self.inside.changes offered m)) (ap timeline same ∙ timeline_changed p ch c.self.invariant.0.kept fits))
