use Rattle.save_file.proofs.Common.{[], said, ◌++◌, ◌∷◌, ◌≡◌}
use Rattle.saved_text.proofs.LinesLeft.{wrote_line}
use Rattle.save_file.proofs.DroppedLaws.{said_whole}
use Rattle.save_file.proofs.dropped.put_words.Goals as goal

pub returns : goal.returns
returns g c =
    let piece : c.bytes.result.now ≡ said c.args.kind.now c.args.name.now ++ 10 ∷ [] = rw (c.bytes.ensures.value, c.push-5.ensures.appended, c.push-4.ensures.appended, c.push-3.ensures.appended, c.push-2.ensures.appended, c.push.ensures.appended, c.new-piece.ensures) (said_whole c.args.kind.now c.args.name.now) in
    wrote_line _ _ _ (said c.args.kind.now c.args.name.now) c.put_piece.result piece c.put_piece.ensures.written c.put_piece.ensures.puts
