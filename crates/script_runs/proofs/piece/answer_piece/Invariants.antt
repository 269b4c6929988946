use Rattle.std.proofs.Common.{◌≡◌, ◌+◌, ◌≤◌, true, ◌++◌, length}
use Rattle.fact_watch.specs.Tables.{named_relations}
use Rattle.script_lines.specs.Lines.{HasNoNewline, ended_lines}
use Rattle.script_runs.specs.Meanings.{IsBeginning, Meaning}
use Rattle.script_runs.specs.AnsweredLines.{LinesOutput}
use Rattle.session_lines.specs.Writing.{WroteLines}
use Rattle.script_runs.proofs.piece.answer_piece.Given as goal

abbrev pub invariant-loop-rest : goal.invariant-loop-rest
invariant-loop-rest g l = record {
  output : (m : Meaning) → IsBeginning m → g.T.LineHandler.means l.fn.handler (named_relations l.tables.relations.now) m
      → (there : Meaning) × g.T.LineHandler.means l.handler (named_relations l.tables.relations.now) there × IsBeginning there
      × LinesOutput m (WroteLines (g.K.Sink.output l.fn.out) (g.K.Sink.output l.out)) l.fn.lines.so_far l.fn.bytes there l.lines.so_far l.rest
      × (l.steps + there.steps g.T.LineHandler.most (ended_lines (l.lines.so_far ++ l.rest)) ≤ l.fn.steps + m.steps g.T.LineHandler.most (ended_lines (l.fn.lines.so_far ++ l.fn.bytes)));
  unended : HasNoNewline l.lines.so_far;
  same_rules : g.T.LineHandler.goes_by l.handler ≡ g.T.LineHandler.goes_by l.fn.handler;
  few : g.T.LineHandler.changes l.handler + length l.rest ≤ g.T.LineHandler.changes l.fn.handler + length l.fn.bytes;
  later : (g.K.Sink.output l.fn.out).faults ≤ (g.K.Sink.output l.out).faults;
  quiet : g.T.LineHandler.is_quiet ≡ true → l.out ≡ l.fn.out;
}

abbrev pub decreases-loop-rest : goal.decreases-loop-rest
decreases-loop-rest g l = length l.rest
