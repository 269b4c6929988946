-- What is put at the end of an interview: one line, or the lines of a saved text or of a summary.
use Rattle.std.specs.Prelude.{◌≡◌, ◌⊎◌, ℕ, List, [], ◌∷◌}
use Rattle.fg_io.specs.Outside.{Output}
use Rattle.fg_io.specs.Puts.{PutAll, PutPart}
use Rattle.session_lines.specs.Replies.{line_with}
use Rattle.session_lines.specs.Writing.{WroteLines, WroteSome}
use Rattle.script_runs.specs.declared.status.Status.{Status}
use Rattle.script_runs.specs.declared.status.Status.TheVariants.{Done, DictionaryRefused, Usage, WriteFault, SavedRefused}

-- a text that ends an interview was put whole as one piece, with this status, or as far as the put that failed
abbrev pub PutAtEnd : Output → Output → List ℕ → Status → Status → Type 0
PutAtEnd sink sink_now text whole status =
    ((status ≡ whole) × PutAll sink sink_now (text ∷ [])) ⊎ ((status ≡ WriteFault) × PutPart sink sink_now (text ∷ []))

-- lines were, each as one piece
abbrev pub PutLinesAtEnd : Output → Output → List (List ℕ) → Status → Status → Type 0
PutLinesAtEnd sink sink_now lines whole status =
    ((status ≡ whole) × WroteLines sink sink_now lines) ⊎ ((status ≡ WriteFault) × WroteSome sink sink_now lines)

-- by its status: with that of a failed put as far as the put that failed, with each that a line comes with whole, and with no other
abbrev pub PutBy : Output → Output → List (List ℕ) → Status → Type 0
PutBy sink sink_now pieces WriteFault = PutPart sink sink_now pieces
PutBy sink sink_now pieces Done = PutAll sink sink_now pieces
PutBy sink sink_now pieces DictionaryRefused = PutAll sink sink_now pieces
PutBy sink sink_now pieces Usage = PutAll sink sink_now pieces
PutBy sink sink_now pieces SavedRefused = PutAll sink sink_now pieces
PutBy sink sink_now pieces other = ⊥

-- nothing was put, or one line
abbrev pub PutsOneLine : Output → Output → Status → Type 0
PutsOneLine sink sink_now status = (sink_now ≡ sink) ⊎ ((line : List ℕ) × PutBy sink sink_now (line_with line ∷ []) status)
