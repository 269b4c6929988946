use Rattle.std.proofs.Common.{◌∙◌}
use Rattle.session_lines.proofs.WritingLaws.{wrote_ended}
use Rattle.session_lines.proofs.writing.put_printed.Goals as goal

pub returns : goal.returns
returns g c = wrote_ended _ _ c.bytes.result.now c.args.text.now c.put_piece.result (c.bytes.ensures.value ∙ c.push.ensures.appended) c.put_piece.ensures.written c.put_piece.ensures.puts
