-- A history as a list of whole answers and a place in it.
use Rattle.std.specs.Prelude.{ℕ, List, [], ◌∷◌, take}
use Rattle.answers.specs.Answered.{Answered}
use Rattle.answers.specs.Change.{Change, applied}
use Rattle.session_undo.specs.UndoState.{UndoState}

-- the answers before the place, the nearest first; those at the place; and those after it, the nearest first
pub record Timeline : Type 0 where
  pub before : List Answered
  pub now : Answered
  pub after : List Answered

-- the place is moved back by one
abbrev pub back_to : List Answered → Answered → List Answered → Timeline
back_to [] a after = record { before = []; now = a; after = after }
back_to (b ∷ bs) a after = record { before = bs; now = b; after = a ∷ after }

abbrev pub timeline_back : Timeline → Timeline
timeline_back t = back_to t.before t.now t.after

-- before and after change sides
abbrev pub timeline_turned : Timeline → Timeline
timeline_turned t = record { before = t.after; now = t.now; after = t.before }

-- the place is moved forth by one
abbrev pub timeline_forth : Timeline → Timeline
timeline_forth t = timeline_turned (timeline_back (timeline_turned t))

-- what lies after the place is cut, and these answers are appended
abbrev pub timeline_change : Timeline → Answered → Timeline
timeline_change t a = record { before = t.now ∷ t.before; now = a; after = [] }

-- of the answers before the place the nearest are kept, so many at most
abbrev pub timeline_forgotten : ℕ → Timeline → Timeline
timeline_forgotten most t = record { before = take most t.before; now = t.now; after = t.after }

-- the answers that changes pass, one after another
abbrev pub trace : List Change → Answered → List Answered
trace [] a = []
trace (c ∷ cs) a = applied c a ∷ trace cs (applied c a)

-- the list of whole answers that a place stands for: nothing but the changes is kept of it
abbrev pub timeline : UndoState → Timeline
timeline p = record { before = trace p.back p.now; now = p.now; after = trace p.ahead p.now }
