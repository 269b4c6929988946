-- A script that goes on: so many bytes of it were read, each line that ended in them was answered, and none was `quit`.
use Rattle.std.specs.Prelude.{◌≡◌, ℕ, ◌<◌, false, List, [], All, length, Option}
use Rattle.std.specs.Io.KnownBytes.{Consumes}
use Rattle.fg_io.specs.Outside.{ByPull, Output}
use Rattle.script_lines.specs.Lines.{HasNoNewline}
use Rattle.session_lines.specs.Writing.{WroteLines}
use Rattle.script_runs.specs.Meanings.{Meaning}
use Rattle.script_runs.specs.Exchange.{Came, bytes_of}
use Rattle.script_runs.specs.AnsweredLines.{LinesOutput}

-- what follows means this from here on
pub record AnsweredSoFar (m : Meaning) (left left_now : Option (List ℕ)) (sink sink_now : Output) (count : ℕ) (there : Meaning) (held : List ℕ) : Type 0 where
  pub bytes : List ℕ
  pub read : Consumes left left_now bytes
  pub counted : count ≡ length bytes
  pub output : LinesOutput m (WroteLines sink sink_now) [] bytes there held []
  pub unquit : there.over [] ≡ false
  pub unended : HasNoNewline held

-- these bytes came of it, in pieces, and none of them was the end
pub record ExchangeSoFar {S K : Type 0} (pulled : ByPull S K) (output : K → Output) (m : Meaning) (out : K) (script : S) (bytes : List ℕ) (script_now : S) : Type 0 where
  pub pieces : List (List ℕ)
  pub came : Came pulled output m out script pieces script_now
  pub same : bytes_of pieces ≡ bytes
  pub unended : All (λ piece. 0 < length piece) pieces
