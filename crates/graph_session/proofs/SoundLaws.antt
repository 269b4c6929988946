-- What a session keeps goes on to hold, after a change and after a step back or forth.
use Rattle.std.proofs.Common.{◌≡◌, ℕ, ◌+◌, ◌≤◌, false, List, [], ◌∷◌, Option, Some, refl, sym, ap, ◌∙◌, subst}
use Rattle.std.specs.List.{All}
use Rattle.std.proofs.lemmas.List.Elements.{All-cons, All-head, All-nil, All-tail, All-take}
use Rattle.dict_source.specs.Dictionary.{Dictionary as Tree}
use Rattle.answers.specs.Answered.{Answered}
use Rattle.answers.specs.Change.{Change, Fits, applied, inverse}
use Rattle.answers.specs.WellFormed.{WellFormed}
use Rattle.answers.proofs.ChangeLaws.{fits_inverse_undoes}
use Rattle.answers.proofs.FitsLaws.{inverse_fits}
use Rattle.answers.specs.declared.parts.Parts.{Parts}
use Rattle.session_undo.specs.Directions.{changes_of, reversed}
use Rattle.session_undo.specs.declared.direction.Direction.{Direction}
use Rattle.session_undo.specs.declared.direction.Direction.TheVariants.{Back, Forth}
use Rattle.session_undo.specs.declared.history.History.{History}
use Rattle.session_undo.specs.History.{first, place}
use Rattle.session_undo.specs.UndoState.{FitInTurn, IsConsistent, UndoState, changed, forgotten, moved, moved_back, turned}
use Rattle.session_undo.specs.Timeline.{Timeline, back_to, timeline, timeline_back, timeline_change, timeline_forgotten, timeline_forth, timeline_turned, trace}
use Rattle.session_undo.proofs.TimelineLaws.{forgotten_timeline, kept_changed, kept_forgotten, kept_moved_back, timeline_changed, timeline_moved_back, timeline_moved_forth}
use Rattle.dictionary.specs.AcceptedParts.{AcceptedParts, accepted, names_of}
use Rattle.dict_meaning.specs.Allowed.{IsAllowed}
use Rattle.dict_meaning.specs.Fits.{AnswersFit}
use Rattle.dict_meaning.proofs.FitChangeLaws.{allowed_changes_fit}
use Rattle.graph_session.specs.Counts.{Counts}
use Rattle.graph_session.specs.Keeping.{AllFit, IsSound}
use Rattle.graph_session.specs.Moves.{changes_along, is_end, step_command, stepped, timeline_stepped}
use Rattle.graph_session.specs.Refusals.{is_empty}
use Rattle.graph_session.specs.Rules.{rules}
use Rattle.graph_session.specs.Step.{most_steps}
use Rattle.graph_session.proofs.StepLaws.{move_steps}

-- ---- answers that fit

module _ (d : Tree) where
  pub fit_start : (a : Answered) → AnswersFit d a → AllFit d (record { before = []; now = a; after = [] })
  fit_start a fit = record { before = All-nil (AnswersFit d); now = fit; after = All-nil (AnswersFit d) }

  pub fit_change : (t : Timeline) (a : Answered) → AllFit d t → AnswersFit d a → AllFit d (timeline_change t a)
  fit_change t a all fit = record { before = All-cons (AnswersFit d) t.now t.before all.now all.before; now = fit; after = All-nil (AnswersFit d) }

  fit_back_to : (before : List Answered) (a : Answered) (after : List Answered) → All (AnswersFit d) before → AnswersFit d a → All (AnswersFit d) after → AllFit d (back_to before a after)
  fit_back_to [] a after b n f = record { before = b; now = n; after = f }
  fit_back_to (x ∷ xs) a after b n f = record { before = All-tail (AnswersFit d) x xs b; now = All-head (AnswersFit d) x xs b; after = All-cons (AnswersFit d) a after n f }

  fit_back : (t : Timeline) → AllFit d t → AllFit d (timeline_back t)
  fit_back t all = fit_back_to t.before t.now t.after all.before all.now all.after

  fit_turned : (t : Timeline) → AllFit d t → AllFit d (timeline_turned t)
  fit_turned t all = record { before = all.after; now = all.now; after = all.before }

  pub fit_stepped : (direction : Direction) (t : Timeline) → AllFit d t → AllFit d (timeline_stepped direction t)
  fit_stepped Forth t all = fit_turned (timeline_back (timeline_turned t)) (fit_back (timeline_turned t) (fit_turned t all))
  fit_stepped Back t all = fit_back t all

  pub fit_forgotten : (most : ℕ) (t : Timeline) → AllFit d t → AllFit d (timeline_forgotten most t)
  fit_forgotten most t all = record { before = All-take (AnswersFit d) most t.before all.before; now = all.now; after = all.after }

-- ---- what a session keeps

pub sound_changed : (k : AcceptedParts) (p : UndoState) (c : Change) → IsSound k p → Fits c p.now → IsAllowed (accepted k) p.now c → IsSound k (changed p c)
sound_changed k p c s fits allowed =
    let d = (accepted k).tree in
    record {
      is_accepted = s.is_accepted;
      kept = kept_changed p c s.kept fits;
      fit = subst (AllFit d) (sym (timeline_changed p c s.kept fits)) (fit_change d (timeline p) (applied c p.now) s.fit (allowed_changes_fit (names_of k.checks) (accepted k) s.is_accepted p.now c s.fit.now fits allowed));
    }

pub sound_forgotten : (k : AcceptedParts) (p : UndoState) (most : ℕ) → IsSound k p → IsSound k (forgotten most p)
sound_forgotten k p most s = record {
  is_accepted = s.is_accepted;
  kept = kept_forgotten most p s.kept;
  fit = subst (AllFit (accepted k).tree) (sym (forgotten_timeline most p)) (fit_forgotten (accepted k).tree most (timeline p) s.fit);
}

sound_turned : (k : AcceptedParts) (p : UndoState) → IsSound k p → IsSound k (turned p)
sound_turned k p s = record {
  is_accepted = s.is_accepted;
  kept = record { well = s.kept.well; back = s.kept.ahead; ahead = s.kept.back };
  fit = fit_turned (accepted k).tree (timeline p) s.fit;
}

sound_back : (k : AcceptedParts) (p : UndoState) → IsSound k p → IsSound k (moved_back p)
sound_back k p s = record {
  is_accepted = s.is_accepted;
  kept = kept_moved_back p s.kept;
  fit = subst (AllFit (accepted k).tree) (sym (timeline_moved_back p s.kept)) (fit_stepped (accepted k).tree Back (timeline p) s.fit);
}

sound_stepped : (k : AcceptedParts) (direction : Direction) (p : UndoState) → IsSound k p
    → IsSound k (stepped direction p)
sound_stepped k Forth p s = sound_turned k (moved_back (turned p)) (sound_back k (turned p) (sound_turned k p s))
sound_stepped k Back p s = sound_back k p s

-- ---- steps back and forth

timeline_of_stepped : (direction : Direction) (p : UndoState) → IsConsistent p → timeline (stepped direction p) ≡ timeline_stepped direction (timeline p)
timeline_of_stepped Forth p k = timeline_moved_forth p k
timeline_of_stepped Back p k = timeline_moved_back p k

-- the change that leads back to where a step came from
undoes_step : (cs : List Change) (a : Answered) (ds : List Change) (d : Change) → WellFormed a → FitInTurn cs a → is_empty (trace cs a) ≡ false → Some d ≡ first (moved cs a ds).ahead
    → Fits d (moved cs a ds).now × (applied d (moved cs a ds).now ≡ a)
undoes_step [] a ds d well fit some e = absurd cc
undoes_step (c ∷ cs) a ds d well fit some e =
    let same : d ≡ inverse c a = cc in
    (subst (λ (x : Change). Fits x (applied c a)) (sym same) (inverse_fits c a well fit.0), ap (λ (x : Change). applied x (applied c a)) same ∙ fits_inverse_undoes c a well fit.0)

undoes_stepped : (direction : Direction) (p : UndoState) (d : Change) → IsConsistent p → is_end direction (timeline p) ≡ false → Some d ≡ first (changes_along (reversed direction) (stepped direction p))
    → Fits d (stepped direction p).now × (applied d (stepped direction p).now ≡ p.now)
undoes_stepped Forth p d k some e = undoes_step p.ahead p.now p.back d k.well k.ahead some e
undoes_stepped Back p d k some e = undoes_step p.back p.now p.ahead d k.well k.back some e

forth_again : (before : List Answered) (a : Answered) (after : List Answered) → is_empty before ≡ false → timeline_forth (back_to before a after) ≡ record { before = before; now = a; after = after }
forth_again [] a after some = absurd cc
forth_again (b ∷ bs) a after some = refl

there_and_back : (direction : Direction) (t : Timeline) → is_end direction t ≡ false → timeline_stepped (reversed direction) (timeline_stepped direction t) ≡ t
there_and_back Forth t some = ap timeline_turned (forth_again t.after t.now t.before some)
there_and_back Back t some = forth_again t.before t.now t.after some

-- ---- at a place that was stepped to

-- the newest change of a direction, as it is shown
pub newest_shown : (direction : Direction) (h : History) (a : Parts) (o : Option Change) → o ≡ first (changes_of direction h) → o ≡ first (changes_along direction (place h a))
newest_shown Forth h a o e = e
newest_shown Back h a o e = e

module _ (k : AcceptedParts) (direction : Direction) (p q : UndoState) (s : IsSound k p) (moved_there : q ≡ stepped direction p) (some : is_end direction (timeline p) ≡ false) where
  pub there_sound : IsSound k q
  there_sound = subst (IsSound k) (sym moved_there) (sound_stepped k direction p s)

  pub there_timeline : timeline q ≡ timeline_stepped direction (timeline p)
  there_timeline = ap timeline moved_there ∙ timeline_of_stepped direction p s.kept

  pub again : (r : UndoState) → r ≡ stepped (reversed direction) q → IsSound k r × (timeline r ≡ timeline p)
  again r e = (
    subst (IsSound k) (sym e) (sound_stepped k (reversed direction) q there_sound),
    ap timeline e ∙ timeline_of_stepped (reversed direction) q there_sound.kept ∙ ap (timeline_stepped (reversed direction)) there_timeline ∙ there_and_back direction (timeline p) some,
  )

  module _ (d : Change) (newest : Some d ≡ first (changes_along (reversed direction) q)) where
    pub there_undoes : Fits d q.now × (applied d q.now ≡ p.now)
    there_undoes =
        let here : Some d ≡ first (changes_along (reversed direction) (stepped direction p)) = newest ∙ ap (λ (z : UndoState). first (changes_along (reversed direction) z)) moved_there in
        subst (λ (z : UndoState). Fits d z.now × (applied d z.now ≡ p.now)) (sym moved_there) (undoes_stepped direction p d s.kept some here)

    -- how much work it is to get there
    pub there_steps : (most : Answered → Answered → ℕ) (n : ℕ) (counts : Option Counts) (old new : ℕ) → new ≤ old + most (applied d q.now) q.now
        → new ≤ old + most_steps most (rules k) (record { timeline = timeline p; changes = n; counts = counts }) (step_command direction)
    there_steps most n counts old new few =
        subst (λ (work : ℕ). new ≤ old + work) (
        ap (λ (a : Answered). most a q.now) there_undoes.1
        ∙ ap (λ (t : Timeline). most p.now t.now) there_timeline
        ∙ sym (move_steps most (rules k) (record { timeline = timeline p; changes = n; counts = counts }) direction some)
        ) few
