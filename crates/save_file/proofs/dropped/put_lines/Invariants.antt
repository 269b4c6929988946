use Rattle.save_file.proofs.Common.{length, lines_of, said_at, ◌+◌, ◌≤◌}
use Rattle.saved_text.proofs.LinesLeft.{LinesLeft}
use Rattle.save_file.proofs.dropped.put_lines.Given as goal

abbrev pub invariant-loop-rest : goal.invariant-loop-rest
invariant-loop-rest g l = record {
  left : LinesLeft (g.K.Sink.output l.fn.out) (g.K.Sink.output l.out) (said_at 1 l.fn.dropped (lines_of l.fn.bytes)) (said_at l.number l.left (lines_of l.rest));
  room : l.number + length l.rest ≤ length l.fn.bytes + 1;
}

abbrev pub decreases-loop-rest : goal.decreases-loop-rest
decreases-loop-rest g l = length l.rest
