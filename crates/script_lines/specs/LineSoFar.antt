-- What is kept of a line.
use Rattle.std.specs.Prelude.{◌≡◌, ℕ, Bool, List, [], ◌∷◌, ◌++◌, if◌then◌else◌}
use Rattle.script_lines.specs.Lines.{script_lines}

-- bytes that read the same as the line: those that are kept, and one in place of those that are not
abbrev pub read_as : List ℕ → Bool → List ℕ
read_as bytes is_long = if is_long then bytes ++ 0 ∷ [] else bytes

-- a line that goes on by a text reads the same as another, whatever follows
abbrev pub GoesOnAs : (line text other : List ℕ) → Type 0
GoesOnAs line text other = (more : List ℕ) → script_lines (line ++ (text ++ more)) ≡ script_lines (other ++ more)
