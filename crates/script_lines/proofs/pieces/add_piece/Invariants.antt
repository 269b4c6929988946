use Rattle.std.proofs.Common.{◌≡◌, ◌++◌, ℕ, List, length}
use Rattle.script_lines.specs.Lines.{script_lines}
use Rattle.script_lines.specs.Pieces.{lines_read}
use Rattle.script_lines.proofs.pieces.add_piece.Given as goal

abbrev pub invariant-loop-rest : goal.invariant-loop-rest
invariant-loop-rest l = (more : List ℕ) → lines_read l.fn.found.items ++ script_lines (l.fn.lines.so_far ++ (l.fn.piece ++ more)) ≡ lines_read l.found.items ++ script_lines (l.lines.so_far ++ (l.rest ++ more))

abbrev pub decreases-loop-rest : goal.decreases-loop-rest
decreases-loop-rest l = length l.rest
