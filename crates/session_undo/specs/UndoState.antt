-- Answers between the changes that lead back from them and those that lead forth, and steps over these.
use Rattle.std.specs.Prelude.{ℕ, zero, suc, List, [], ◌∷◌, take}
use Rattle.answers.specs.Answered.{Answered}
use Rattle.answers.specs.Change.{Change, Fits, applied, inverse}
use Rattle.answers.specs.WellFormed.{WellFormed}

-- the changes that lead back, the newest first; the answers; the changes that lead forth, the nearest first
pub record UndoState : Type 0 where
  pub back : List Change
  pub now : Answered
  pub ahead : List Change

-- the newest change is made, and its inverse goes across
abbrev pub moved : List Change → Answered → List Change → UndoState
moved [] a ahead = record { back = []; now = a; ahead = ahead }
moved (c ∷ cs) a ahead = record { back = cs; now = applied c a; ahead = inverse c a ∷ ahead }

abbrev pub moved_back : UndoState → UndoState
moved_back p = moved p.back p.now p.ahead

-- back and forth change sides
abbrev pub turned : UndoState → UndoState
turned p = record { back = p.ahead; now = p.now; ahead = p.back }

abbrev pub moved_forth : UndoState → UndoState
moved_forth p = turned (moved_back (turned p))

-- a change is made: its inverse leads back, and what lay ahead is cut
abbrev pub changed : UndoState → Change → UndoState
changed p c = record { back = inverse c p.now ∷ p.back; now = applied c p.now; ahead = [] }

-- of the changes that lead back the newest are kept, so many at most
abbrev pub forgotten : ℕ → UndoState → UndoState
forgotten most p = record { back = take most p.back; now = p.now; ahead = p.ahead }

-- changes made one after another, and as many steps back, or forth
abbrev pub made : List Change → UndoState → UndoState
made [] p = p
made (c ∷ cs) p = made cs (changed p c)

abbrev pub undone : ℕ → UndoState → UndoState
undone zero p = p
undone (suc n) p = undone n (moved_back p)

abbrev pub redone : ℕ → UndoState → UndoState
redone zero p = p
redone (suc n) p = redone n (moved_forth p)

-- each change fits where its turn comes
abbrev pub FitInTurn : List Change → Answered → Type 0
FitInTurn [] a = Unit {0}
FitInTurn (c ∷ cs) a = Fits c a × FitInTurn cs (applied c a)

-- the answers are well formed, and the changes back and forth fit one after another
pub record IsConsistent (p : UndoState) : Type 0 where
  pub well : WellFormed p.now
  pub back : FitInTurn p.back p.now
  pub ahead : FitInTurn p.ahead p.now
