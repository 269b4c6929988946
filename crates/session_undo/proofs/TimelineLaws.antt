-- Steps over changes are steps over whole answers.
use Rattle.std.proofs.Common.{◌≡◌, ℕ, zero, suc, List, [], ◌∷◌, refl, ap}
use Rattle.std.specs.Prelude.{take}
use Rattle.answers.specs.Answered.{Answered}
use Rattle.answers.specs.Change.{Change, Fits, applied, inverse}
use Rattle.answers.specs.WellFormed.{WellFormed}
use Rattle.answers.proofs.ChangeLaws.{fits_inverse_undoes}
use Rattle.answers.proofs.FitsLaws.{inverse_fits}
use Rattle.answers.proofs.WellLaws.{applied_well}
use Rattle.session_undo.specs.UndoState.{UndoState, moved, moved_back, moved_forth, turned, changed, forgotten, FitInTurn, IsConsistent}
use Rattle.session_undo.specs.Timeline.{timeline, timeline_back, timeline_forth, timeline_change, timeline_turned, timeline_forgotten, trace, back_to}

-- one step along the changes
back_timeline : (cs : List Change) (a : Answered) (ds : List Change) → WellFormed a → FitInTurn cs a → timeline (moved cs a ds) ≡ back_to (trace cs a) a (trace ds a)
back_timeline [] a ds well fit = refl
back_timeline (c ∷ cs) a ds well (fits, rest) =
    let back : applied (inverse c a) (applied c a) ≡ a = fits_inverse_undoes c a well fits in
    rw back refl

kept_back : (cs : List Change) (a : Answered) (ds : List Change) → WellFormed a → FitInTurn cs a → FitInTurn ds a → IsConsistent (moved cs a ds)
kept_back [] a ds well fit ahead = record { well = well; back = fit; ahead = ahead }
kept_back (c ∷ cs) a ds well (fits, rest) ahead =
    let back : applied (inverse c a) (applied c a) ≡ a = fits_inverse_undoes c a well fits in
    record { well = applied_well c a well fits; back = rest; ahead = (inverse_fits c a well fits, rw back ahead) }

pub timeline_moved_back : (p : UndoState) → IsConsistent p → timeline (moved_back p) ≡ timeline_back (timeline p)
timeline_moved_back p k = back_timeline p.back p.now p.ahead k.well k.back

pub kept_moved_back : (p : UndoState) → IsConsistent p → IsConsistent (moved_back p)
kept_moved_back p k = kept_back p.back p.now p.ahead k.well k.back k.ahead

kept_turned : (p : UndoState) → IsConsistent p → IsConsistent (turned p)
kept_turned p k = record { well = k.well; back = k.ahead; ahead = k.back }

pub timeline_moved_forth : (p : UndoState) → IsConsistent p → timeline (moved_forth p) ≡ timeline_forth (timeline p)
timeline_moved_forth p k = ap timeline_turned (timeline_moved_back (turned p) (kept_turned p k))

pub kept_moved_forth : (p : UndoState) → IsConsistent p → IsConsistent (moved_forth p)
kept_moved_forth p k = kept_turned (moved_back (turned p)) (kept_moved_back (turned p) (kept_turned p k))

-- a change
pub timeline_changed : (p : UndoState) (c : Change) → IsConsistent p → Fits c p.now → timeline (changed p c) ≡ timeline_change (timeline p) (applied c p.now)
timeline_changed p c k fits =
    let back : applied (inverse c p.now) (applied c p.now) ≡ p.now = fits_inverse_undoes c p.now k.well fits in
    rw back refl

pub kept_changed : (p : UndoState) (c : Change) → IsConsistent p → Fits c p.now → IsConsistent (changed p c)
kept_changed p c k fits =
    let back : applied (inverse c p.now) (applied c p.now) ≡ p.now = fits_inverse_undoes c p.now k.well fits in
    record { well = applied_well c p.now k.well fits; back = (inverse_fits c p.now k.well fits, rw back k.back); ahead = tt }

-- changes that are forgotten
trace_taken : (n : ℕ) (cs : List Change) (a : Answered) → trace (take n cs) a ≡ take n (trace cs a)
trace_taken zero cs a = refl
trace_taken (suc n) [] a = refl
trace_taken (suc n) (c ∷ cs) a = ap (λ (bs : List Answered). applied c a ∷ bs) (trace_taken n cs (applied c a))

fit_taken : (n : ℕ) (cs : List Change) (a : Answered) → FitInTurn cs a → FitInTurn (take n cs) a
fit_taken zero cs a fit = tt
fit_taken (suc n) [] a fit = tt
fit_taken (suc n) (c ∷ cs) a (fits, rest) = (fits, fit_taken n cs (applied c a) rest)

pub forgotten_timeline : (most : ℕ) (p : UndoState) → timeline (forgotten most p) ≡ timeline_forgotten most (timeline p)
forgotten_timeline most p = ap (λ (bs : List Answered). record { before = bs; now = p.now; after = trace p.ahead p.now }) (trace_taken most p.back p.now)

pub kept_forgotten : (most : ℕ) (p : UndoState) → IsConsistent p → IsConsistent (forgotten most p)
kept_forgotten most p k = record { well = k.well; back = fit_taken most p.back p.now k.back; ahead = k.ahead }
