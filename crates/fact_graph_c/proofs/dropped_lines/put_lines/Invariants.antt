-- The lines from here on are left to put.
use Rattle.std.proofs.Common.{◌≤◌, drop, map}
use Rattle.fg_io.specs.Sent.{Sent}
use Rattle.save_file.specs.Resuming.{dropped_line}
use Rattle.fact_graph_c.specs.DroppedLines.{dropped_lines_text}
use Rattle.fact_graph_c.proofs.dropped_lines.put_lines.Given as goal

abbrev pub invariant-loop-line : goal.invariant-loop-line
invariant-loop-line g l = record {
  sent : Sent (g.K.Sink.output l.fn.out).taken (g.K.Sink.output l.out).taken (dropped_lines_text (map dropped_line l.lines)) (dropped_lines_text (map dropped_line (drop l.line-index l.lines)));
  later : (g.K.Sink.output l.fn.out).faults ≤ (g.K.Sink.output l.out).faults;
}
