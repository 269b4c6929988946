-- Lines that are written: each with its newline is one piece.
use Rattle.std.specs.Prelude.{ℕ, List, map, Result, Ok, Err}
use Rattle.std.specs.Io.KnownBytes.{Appends}
use Rattle.fg_io.specs.Outside.{Output}
use Rattle.fg_io.specs.Puts.{PutAll, PutPart}
use Rattle.fg_io.specs.Sent.{Sent}
use Rattle.script_lines.specs.Joined.{joined}
use Rattle.session_lines.specs.Replies.{line_with}

-- the pieces by which lines are put
abbrev pub pieces_of : List (List ℕ) → List (List ℕ)
pieces_of lines = map line_with lines

-- each line was put whole, and no put failed
pub record WroteLines (sink sink_now : Output) (lines : List (List ℕ)) : Type 0 where
  pub bytes : Appends sink.taken sink_now.taken (joined lines)
  pub puts : PutAll sink sink_now (pieces_of lines)

-- they were put as far as the first put that failed, and no put was made behind it
pub record WroteSome (sink sink_now : Output) (lines : List (List ℕ)) : Type 0 where
  pub bytes : (rest : List ℕ) × Sent sink.taken sink_now.taken (joined lines) rest
  pub puts : PutPart sink sink_now (pieces_of lines)

abbrev pub WroteAs : {T E : Type 0} → Output → Output → List (List ℕ) → Result T E → Type 0
WroteAs sink sink_now lines (Ok done) = WroteLines sink sink_now lines
WroteAs sink sink_now lines (Err failed) = WroteSome sink sink_now lines
