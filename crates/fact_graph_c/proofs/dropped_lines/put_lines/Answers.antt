use Rattle.std.proofs.Common.{arith, drop, map, ◌+◌, ◌++◌, ◌∷◌, []}
use Rattle.fg_io.proofs.SentLaws.{sent_piece}
use Rattle.fg_io.proofs.WritingLaws.{failed_within}
use Rattle.save_file.specs.Resuming.{dropped_line}
use Rattle.fact_graph_c.specs.DroppedLines.{dropped_line_text, dropped_lines_text}
use Rattle.fact_graph_c.proofs.DroppedLineLaws.{next_dropped}
use Rattle.fact_graph_c.proofs.dropped_lines.put_lines.Goals as goal

pub returns-in-Err : goal.returns-in-Err
returns-in-Err g c =
    let items = c.args.lines.now in
    let i = c.loop-line.line-index in
    let item = c.line-item.result in
    failed_within _ _ _ (dropped_lines_text (map dropped_line items)) (dropped_line_text (dropped_line item) ++ 10 ∷ []) (dropped_lines_text (map dropped_line (drop (i + 1) items)))
    (next_dropped _ _ _ items i item c.loop-line-test.true c.line-item.is c.loop-line.invariant.sent)
    c.loop-line.invariant.later c.in-Err.ensures

pub loop-line-preserved : goal.loop-line-preserved
loop-line-preserved g c =
    let items = c.args.lines.now in
    let i = c.loop-line.line-index in
    let item = c.line-item.result in
    record {
      sent = sent_piece _ _ _ (dropped_lines_text (map dropped_line items)) (dropped_line_text (dropped_line item) ++ 10 ∷ []) (dropped_lines_text (map dropped_line (drop (i + 1) items)))
          (next_dropped _ _ _ items i item c.loop-line-test.true c.line-item.is c.loop-line.invariant.sent)
          c.in-Ok.ensures.sent;
      later = omega (arith, c.loop-line.invariant.later, c.in-Ok.ensures.later);
    }
