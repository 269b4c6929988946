use Rattle.std.proofs.Common.{refl}
use Rattle.saved_text.proofs.Pieces.{failed_piece, last_piece, wrote_piece}
use Rattle.fact_graph_c.proofs.DroppedLineLaws.{line_left}
use Rattle.fact_graph_c.proofs.dropped_lines.put_line.Goals as goal

pub returns-in_err-put_text : goal.returns-in_err-put_text
returns-in_err-put_text g c = failed_piece _ c.from_residual.result c.from_residual.ensures.1 (line_left c.args.line.now _ refl _) c.in_err-put_text.ensures

pub returns-in_err-put_text-2 : goal.returns-in_err-put_text-2
returns-in_err-put_text-2 g c =
    failed_piece _ c.from_residual-in_err-put_text-2.result c.from_residual-in_err-put_text-2.ensures.1 (wrote_piece (line_left c.args.line.now c.as_bytes.result.now c.as_bytes.ensures.value _) c.in_ok-put_text.ensures) c.in_err-put_text-2.ensures

pub returns : goal.returns
returns g c = last_piece _ c.put_reason.result (wrote_piece (wrote_piece (line_left c.args.line.now c.as_bytes.result.now c.as_bytes.ensures.value _) c.in_ok-put_text.ensures) c.in_ok-put_text-2.ensures) c.put_reason.ensures
