use Rattle.std.proofs.Common.{◌≡◌, ◌++◌, drop}
use Rattle.std.specs.List.{flat_map}
use Rattle.script_lines.specs.Lines.{script_lines}
use Rattle.script_lines.specs.Pieces.{lines_read}
use Rattle.script_lines.proofs.pieces.lines_of_pieces.Given as goal

abbrev pub invariant-loop-piece : goal.invariant-loop-piece
invariant-loop-piece l = script_lines (flat_map (λ piece. piece.now) l.pieces) ≡ lines_read l.found.items ++ script_lines (l.lines.so_far ++ flat_map (λ piece. piece.now) (drop l.piece-index l.pieces))
