use Rattle.session_lines.proofs.WritingLaws.{wrote_ended}
use Rattle.interview_ends.proofs.ending.put_ended.Goals as goal

pub returns : goal.returns
returns g c = λ line is. wrote_ended _ _ c.args.text.now line c.put_piece.result is c.put_piece.ensures.written c.put_piece.ensures.puts
