-- What a history and answers stand for, and what needs no memory.
use Rattle.std.specs.Prelude.{Option, Some, None, List, [], ◌∷◌, ◌<◌, vec_capacity, vec_len, map, reverse}
use Rattle.answers.specs.Change.{Change, Fits}
use Rattle.answers.specs.Answered.{Answered}
use Rattle.answers.specs.Meaning.{answered, change}
use Rattle.answers.specs.Room.{HasRoom}
use Rattle.answers.specs.declared.parts.Parts.{Parts}
use Rattle.answers.specs.declared.edit.Edit.{Edit}
use Rattle.session_undo.specs.UndoState.{UndoState}
use Rattle.session_undo.specs.declared.history.History.{History}

-- the changes of edits that were pushed, the newest first
abbrev pub stack : List Edit → List Change
stack es = map change (reverse es)

-- the changes that lead back, and those that lead forth
abbrev pub behind : History → List Change
behind h = stack h.back.items

abbrev pub ahead_of : History → List Change
ahead_of h = stack h.ahead.items

abbrev pub place : History → Parts → UndoState
place h a = record { back = behind h; now = answered a; ahead = ahead_of h }

abbrev pub first : List Change → Option Change
first [] = None
first (c ∷ cs) = Some c

-- the newest change fits
abbrev pub NewestFits : List Change → Answered → Type 0
NewestFits [] a = Unit {0}
NewestFits (c ∷ cs) a = Fits c a

-- there is room for the newest change
abbrev pub NewestRoom : List Change → Parts → Type 0
NewestRoom [] a = Unit {0}
NewestRoom (c ∷ cs) a = HasRoom c a

-- there is room for one edit more that leads back, or forth
abbrev pub RoomBack : History → Type 0
RoomBack h = vec_len h.back < vec_capacity h.back

abbrev pub RoomAhead : History → Type 0
RoomAhead h = vec_len h.ahead < vec_capacity h.ahead

-- the next push needs no memory
abbrev pub CanPush : History → Type 0
CanPush h = RoomBack h × RoomAhead h

-- nor does the next step back, or forth
abbrev pub CanBack : History → Parts → Type 0
CanBack h a = NewestRoom (behind h) a × RoomAhead h

abbrev pub CanForth : History → Parts → Type 0
CanForth h a = NewestRoom (ahead_of h) a × RoomBack h
