-- What devices tell before a call and after it.
use Rattle.std.specs.Prelude.{List, ℕ}
use Rattle.std.specs.Io.KnownBytes.{Appends, Keeps}
use Rattle.fg_io.specs.Outside.{Files, Input, Output, Rose, RoseByOne}
use Rattle.fg_io.specs.Sent.{Sent}

-- what a device tells before a call, and after it
pub record BeforeAfter (D : Type 0) : Type 0 where
  pub before : D
  pub after : D

-- a put, a pull failed, and one fetch
abbrev pub SinkFailed : BeforeAfter Output → Type 0
SinkFailed output = Rose output.before.faults output.after.faults

abbrev pub SourceFailed : BeforeAfter Input → Type 0
SourceFailed input = Rose input.before.faults input.after.faults

abbrev pub ShelfFailed : BeforeAfter Files → Type 0
ShelfFailed files = RoseByOne files.before.faults files.after.faults

-- the text was written whole
abbrev pub SentWhole : BeforeAfter Output → List ℕ → Type 0
SentWhole output text = Appends output.before.taken output.after.taken text

-- a prefix of the text was written
abbrev pub SentPart : BeforeAfter Output → List ℕ → Type 0
SentPart output text = (rest : List ℕ) × Sent output.before.taken output.after.taken text rest

abbrev pub SentNothing : BeforeAfter Output → Type 0
SentNothing output = Keeps output.before.taken output.after.taken
