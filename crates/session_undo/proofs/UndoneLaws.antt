-- As many steps back as changes were made, and as many steps forth.
use Rattle.std.proofs.Common.{◌≡◌, ◌≤◌, ◌+◌, ℕ, zero, suc, List, [], ◌∷◌, length, refl, ap, ◌∙◌, arith}
use Rattle.answers.specs.Answered.{Answered}
use Rattle.answers.specs.Change.{Change, applied, inverse}
use Rattle.answers.specs.WellFormed.{WellFormed}
use Rattle.answers.proofs.ChangeLaws.{fits_inverse_undoes}
use Rattle.answers.proofs.WellLaws.{applied_well}
use Rattle.session_undo.specs.UndoState.{UndoState, moved_back, moved_forth, changed, made, undone, redone, FitInTurn, IsConsistent}
use Rattle.session_undo.specs.Timeline.{Timeline, timeline, timeline_back, timeline_forth, trace}
use Rattle.session_undo.proofs.TimelineLaws.{timeline_moved_back, kept_moved_back, timeline_moved_forth, kept_moved_forth, kept_changed}

-- the last of some steps back
undone_last : (n : ℕ) (p : UndoState) → undone (suc n) p ≡ moved_back (undone n p)
undone_last zero p = refl
undone_last (suc n) p = undone_last n (moved_back p)

-- one step back over a change, whatever lies ahead
step_back : (r p : UndoState) (c : Change) → r.now ≡ applied c p.now → r.back ≡ inverse c p.now ∷ p.back → applied (inverse c p.now) (applied c p.now) ≡ p.now → ((moved_back r).now ≡ p.now) × ((moved_back r).back ≡ p.back)
step_back r p c now back undoes = rw (now, back) (undoes, refl)

pub undone_made : (cs : List Change) (p : UndoState) → WellFormed p.now → FitInTurn cs p.now → ((undone (length cs) (made cs p)).now ≡ p.now) × ((undone (length cs) (made cs p)).back ≡ p.back)
undone_made [] p well fit = (refl, refl)
undone_made (c ∷ cs) p well (fits, rest) =
    let q = changed p c in
    let before : ((undone (length cs) (made cs q)).now ≡ q.now) × ((undone (length cs) (made cs q)).back ≡ q.back) = undone_made cs q (applied_well c p.now well fits) rest in
    rw (undone_last (length cs) (made cs q)) (step_back (undone (length cs) (made cs q)) p c before.0 before.1 (fits_inverse_undoes c p.now well fits))

-- ---- and forth again
steps_back : ℕ → Timeline → Timeline
steps_back zero t = t
steps_back (suc n) t = steps_back n (timeline_back t)

steps_forth : ℕ → Timeline → Timeline
steps_forth zero t = t
steps_forth (suc n) t = steps_forth n (timeline_forth t)

kept_undone : (n : ℕ) (p : UndoState) → IsConsistent p → IsConsistent (undone n p)
kept_undone zero p k = k
kept_undone (suc n) p k = kept_undone n (moved_back p) (kept_moved_back p k)

timeline_undone : (n : ℕ) (p : UndoState) → IsConsistent p → timeline (undone n p) ≡ steps_back n (timeline p)
unfolding steps_back
timeline_undone zero p k = refl
timeline_undone (suc n) p k = timeline_undone n (moved_back p) (kept_moved_back p k) ∙ ap (steps_back n) (timeline_moved_back p k)

timeline_redone : (n : ℕ) (p : UndoState) → IsConsistent p → timeline (redone n p) ≡ steps_forth n (timeline p)
unfolding steps_forth
timeline_redone zero p k = refl
timeline_redone (suc n) p k = timeline_redone n (moved_forth p) (kept_moved_forth p k) ∙ ap (steps_forth n) (timeline_moved_forth p k)

forth_last : (n : ℕ) (t : Timeline) → steps_forth (suc n) t ≡ timeline_forth (steps_forth n t)
unfolding steps_forth
forth_last zero t = refl
forth_last (suc n) t = forth_last n (timeline_forth t)

-- n steps forth after n steps back, where so many answers lie before
there_and_back : (n : ℕ) (before : List Answered) (a : Answered) (after : List Answered) → n ≤ length before
    → steps_forth n (steps_back n (record { before = before; now = a; after = after })) ≡ record { before = before; now = a; after = after }
unfolding steps_back steps_forth
there_and_back zero before a after le = refl
there_and_back (suc n) [] a after le = absurd (omega arith)
there_and_back (suc n) (b ∷ bs) a after le =
    forth_last n (steps_back n (record { before = bs; now = b; after = a ∷ after })) ∙ ap timeline_forth (there_and_back n bs b (a ∷ after) (omega arith))

trace_length : (cs : List Change) (a : Answered) → length (trace cs a) ≡ length cs
trace_length [] a = refl
trace_length (c ∷ cs) a = ap suc (trace_length cs (applied c a))

made_length : (cs : List Change) (p : UndoState) → length (made cs p).back ≡ length cs + length p.back
made_length [] p = omega arith
made_length (c ∷ cs) p = let rest : length (made cs (changed p c)).back ≡ length cs + length (changed p c).back = made_length cs (changed p c) in omega arith

kept_made : (cs : List Change) (p : UndoState) → IsConsistent p → FitInTurn cs p.now → IsConsistent (made cs p)
kept_made [] p k fit = k
kept_made (c ∷ cs) p k (fits, rest) = kept_made cs (changed p c) (kept_changed p c k fits) rest

pub redone_made : (cs : List Change) (p : UndoState) → IsConsistent p → FitInTurn cs p.now → (redone (length cs) (undone (length cs) (made cs p))).now ≡ (made cs p).now
redone_made cs p k fit =
    let n = length cs in
    let q = made cs p in
    let kq : IsConsistent q = kept_made cs p k fit in
    let long : length q.back ≡ length cs + length p.back = made_length cs p in
    let before : length (trace q.back q.now) ≡ length q.back = trace_length q.back q.now in
    let enough : length cs ≤ length (trace q.back q.now) = omega arith in
    ap (λ (t : Timeline). t.now) (timeline_redone n (undone n q) (kept_undone n q kq) ∙ ap (steps_forth n) (timeline_undone n q kq) ∙ there_and_back n (trace q.back q.now) q.now (trace q.ahead q.now) enough)
