-- How a script is cut into lines, and what is found of each.
use Rattle.std.specs.Prelude.{◌≡◌, ◌≢◌, ℕ, ◌+◌, ◌<◌, ◌≤◌, List, [], ◌∷◌, map, length, take, slice_index, if◌then◌else◌, ◌==◌, nat_le, All, codes, replicate, ◌++◌, refl}
use Rattle.script_lines.specs.declared.lines.Ready.{Ready}
use Rattle.script_lines.specs.declared.lines.Ready.TheVariants.{NotYet, Whole, Long}

-- a line by its bytes, without its newline, or one that is too long to be read
pub data ScriptLine : Type 0 where
  whole : List ℕ → ScriptLine
  long : ScriptLine

-- a byte before the first line, or as a line of its own
abbrev pub onto_first : ℕ → List (List ℕ) → List (List ℕ)
onto_first b [] = (b ∷ []) ∷ []
onto_first b (line ∷ lines) = (b ∷ line) ∷ lines

-- cut at each byte 10; a last line without it counts where it has a byte
abbrev pub lines_of : List ℕ → List (List ℕ)
lines_of [] = []
lines_of (b ∷ bytes) = if b == 10 then [] ∷ lines_of bytes else onto_first b (lines_of bytes)

-- a byte before the first line, if there is one
abbrev pub onto_ended : ℕ → List (List ℕ) → List (List ℕ)
onto_ended b [] = []
onto_ended b (line ∷ lines) = (b ∷ line) ∷ lines

-- the same, but only the lines whose byte 10 is there
abbrev pub ended_of : List ℕ → List (List ℕ)
ended_of [] = []
ended_of (b ∷ bytes) = if b == 10 then [] ∷ ended_of bytes else onto_ended b (ended_of bytes)

-- a line of over 4,096 bytes is long, whatever they are
abbrev pub line_of : List ℕ → ScriptLine
line_of bytes = if nat_le (length bytes) 4096 then whole bytes else long

-- the lines of a script
abbrev pub script_lines : List ℕ → List ScriptLine
script_lines bytes = map line_of (lines_of bytes)

-- only those that a newline ends
abbrev pub ended_lines : List ℕ → List ScriptLine
ended_lines bytes = map line_of (ended_of bytes)

-- no byte is 10
abbrev pub HasNoNewline : List ℕ → Type 0
HasNoNewline bytes = All (λ b. b ≢ 10) bytes

-- the first newline is here
pub record IsNewlineAt (bytes : List ℕ) (at : ℕ) : Type 0 where
  pub within : at < length bytes
  pub here : slice_index bytes at ≡ 10
  pub first : HasNoNewline (take at bytes)

-- what is held of a script: bytes that read the same as the line so far, and the line that has ended
pub record Held : Type 0 where
  pub so_far : List ℕ
  pub line : List ℕ

-- the lines that an answer tells
abbrev pub ready_lines : Ready → List ℕ → List ScriptLine
ready_lines NotYet line = []
ready_lines Whole line = whole line ∷ []
ready_lines Long line = long ∷ []

-- `NotYet` took all, and no newline; another answer took the first newline and what is before it, and says whether the
-- line that ends there has over 4,096 bytes
abbrev pub TakesLine : List ℕ → Ready → List ℕ → ℕ → Type 0
TakesLine so_far NotYet piece taken = HasNoNewline piece × (taken ≡ length piece)
TakesLine so_far Whole piece taken = (at : ℕ) × (taken ≡ at + 1) × IsNewlineAt piece at × (length so_far + at ≤ 4096)
TakesLine so_far Long piece taken = (at : ℕ) × (taken ≡ at + 1) × IsNewlineAt piece at × (4096 < length so_far + at)

-- at the end of the script, `NotYet` says that nothing is left, another answer how long the last line is
abbrev pub EndsLine : List ℕ → Ready → Type 0
EndsLine so_far NotYet = so_far ≡ []
EndsLine so_far Whole = (0 < length so_far) × (length so_far ≤ 4096)
EndsLine so_far Long = 4096 < length so_far

-- worked examples
script_lines-empty : script_lines [] ≡ []
script_lines-empty = refl

script_lines-last_unended : script_lines (codes "a" ++ 10 ∷ codes "b") ≡ whole (codes "a") ∷ whole (codes "b") ∷ []
script_lines-last_unended = refl

script_lines-last_ended : script_lines (codes "ab" ++ 10 ∷ []) ≡ whole (codes "ab") ∷ []
script_lines-last_ended = refl

script_lines-empty_line : script_lines (codes "a" ++ 10 ∷ 10 ∷ codes "b") ≡ whole (codes "a") ∷ whole [] ∷ whole (codes "b") ∷ []
script_lines-empty_line = refl

script_lines-byte_13 : script_lines (codes "a" ++ 13 ∷ 10 ∷ []) ≡ whole (codes "a" ++ 13 ∷ []) ∷ []
script_lines-byte_13 = refl

ended_lines-last_unended : ended_lines (codes "a" ++ 10 ∷ codes "b") ≡ whole (codes "a") ∷ []
ended_lines-last_unended = refl

line_of-longest : line_of (replicate 4096 49) ≡ whole (replicate 4096 49)
line_of-longest = refl

line_of-one_more : line_of (replicate 4097 49) ≡ long
line_of-one_more = refl
