-- At which line bytes are refused that are no text of a kind.
use Rattle.std.specs.Prelude.{ℕ, ◌+◌, ◌<◌, ◌≤◌, List, ◌++◌, length, take}
use Rattle.script_lines.specs.Joined.{joined}
use Rattle.script_lines.specs.Lines.{lines_of}

-- some text of a kind begins with them
abbrev pub Begins : (List ℕ → Type 0) → List ℕ → Type 0
Begins IsText front = (rest : List ℕ) × IsText (front ++ rest)

-- the first so many lines, each with its newline, the last one too where it has none
abbrev pub first_lines : ℕ → List ℕ → List ℕ
first_lines n bytes = joined (take n (lines_of bytes))

-- The bytes are no text of the kind, and the line of this number is the first with which the lines up to it begin none; where
-- all lines begin one, only more is wanting, and the number is one past the last line.
pub record IsRefusedAt (IsText : List ℕ → Type 0) (bytes : List ℕ) (n : ℕ) : Type 0 where
  pub text : ¬ IsText bytes
  pub low : 1 ≤ n
  pub high : n ≤ length (lines_of bytes) + 1
  pub before : (k : ℕ) → k < n → Begins IsText (first_lines k bytes)
  pub here : n ≤ length (lines_of bytes) → ¬ Begins IsText (first_lines n bytes)
