-- Laws of every history.
use Rattle.std.specs.Prelude.{◌≡◌, ℕ, List, length}
use Rattle.answers.specs.Change.{Change, Fits, applied}
use Rattle.answers.specs.WellFormed.{WellFormed}
use Rattle.session_undo.specs.UndoState.{UndoState, moved_back, moved_forth, changed, forgotten, made, undone, redone, FitInTurn, IsConsistent}
use Rattle.session_undo.specs.Timeline.{timeline, timeline_back, timeline_forth, timeline_change, timeline_forgotten}

-- n changes that fit in turn, and n steps back: the answers before them, and the changes that led back from those
abbrev pub UndoneIsBefore : Type 0
UndoneIsBefore = (cs : List Change) (p : UndoState) → WellFormed p.now → FitInTurn cs p.now → (undone (length cs) (made cs p)).now ≡ p.now

abbrev pub UndoneKeepsEarlier : Type 0
UndoneKeepsEarlier = (cs : List Change) (p : UndoState) → WellFormed p.now → FitInTurn cs p.now → (undone (length cs) (made cs p)).back ≡ p.back

-- and n steps forth: the answers after them
abbrev pub RedoneIsAfter : Type 0
RedoneIsAfter = (cs : List Change) (p : UndoState) → IsConsistent p → FitInTurn cs p.now → (redone (length cs) (undone (length cs) (made cs p))).now ≡ (made cs p).now

-- steps over changes are steps over whole answers
abbrev pub BackIsOverAnswers : Type 0
BackIsOverAnswers = (p : UndoState) → IsConsistent p → timeline (moved_back p) ≡ timeline_back (timeline p)

abbrev pub ForthIsOverAnswers : Type 0
ForthIsOverAnswers = (p : UndoState) → IsConsistent p → timeline (moved_forth p) ≡ timeline_forth (timeline p)

abbrev pub ChangeIsOverAnswers : Type 0
ChangeIsOverAnswers = (p : UndoState) (c : Change) → IsConsistent p → Fits c p.now → timeline (changed p c) ≡ timeline_change (timeline p) (applied c p.now)

abbrev pub ForgettingIsOverAnswers : Type 0
ForgettingIsOverAnswers = (most : ℕ) (p : UndoState) → timeline (forgotten most p) ≡ timeline_forgotten most (timeline p)

abbrev pub BackKeeps : Type 0
BackKeeps = (p : UndoState) → IsConsistent p → IsConsistent (moved_back p)

abbrev pub ForthKeeps : Type 0
ForthKeeps = (p : UndoState) → IsConsistent p → IsConsistent (moved_forth p)

abbrev pub ChangeKeeps : Type 0
ChangeKeeps = (p : UndoState) (c : Change) → IsConsistent p → Fits c p.now → IsConsistent (changed p c)

abbrev pub ForgettingKeeps : Type 0
ForgettingKeeps = (most : ℕ) (p : UndoState) → IsConsistent p → IsConsistent (forgotten most p)
