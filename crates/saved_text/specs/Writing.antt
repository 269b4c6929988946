-- Lines that are written: each with its newline is one piece.
use Rattle.std.specs.Prelude.{ℕ, List, [], ◌∷◌, ◌++◌, map, Result}
use Rattle.fg_io.specs.Outside.{Output}
use Rattle.fg_io.specs.Puts.{PutAs}
use Rattle.fg_io.specs.Writing.{Wrote}
use Rattle.script_lines.specs.Joined.{joined}

-- the pieces by which lines are put
abbrev pub pieces_of : List (List ℕ) → List (List ℕ)
pieces_of lines = map (λ line. line ++ 10 ∷ []) lines

-- each line was put whole, or they were put as far as the first put that failed, and no put was made behind it
pub record WroteAs {T E : Type 0} (sink sink_now : Output) (lines : List (List ℕ)) (result : Result T E) : Type 0 where
  pub bytes : Wrote sink sink_now (joined lines) result
  pub puts : PutAs sink sink_now (pieces_of lines) result
