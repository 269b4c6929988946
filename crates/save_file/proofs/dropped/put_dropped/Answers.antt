use Rattle.save_file.proofs.Common.{List, Wrote, ap, subst, ℕ}
use Rattle.fg_io.specs.Puts.{PutAs}
use Rattle.saved_text.specs.Writing.{pieces_of}
use Rattle.save_file.proofs.DroppedLaws.{cause_of, said_of_bytes, said_text}
use Rattle.save_file.proofs.dropped.put_dropped.Goals as goal

pub returns-clause-text : goal.returns-clause-text
returns-clause-text g c =
    λ text is.
    subst (λ (t : List ℕ). Wrote (g.K.Sink.output c.args.out.now) (g.K.Sink.output c.put_lines.new.out) t c.put_lines.result)
    (said_text c.args.bytes.now c.args.dropped.now text is) c.put_lines.ensures.bytes

pub returns-clause-cause : goal.returns-clause-cause
returns-clause-cause g c = cause_of (g.K.Sink.output c.args.out.now) (g.K.Sink.output c.put_lines.new.out) _ c.put_lines.result c.put_lines.ensures.bytes

pub returns-clause-puts : goal.returns-clause-puts
returns-clause-puts g c =
    λ lines are.
    subst (λ (ls : List (List ℕ)). PutAs (g.K.Sink.output c.args.out.now) (g.K.Sink.output c.put_lines.new.out) (pieces_of ls) c.put_lines.result)
    (said_of_bytes c.args.bytes.now c.args.dropped.now lines are) c.put_lines.ensures.puts
