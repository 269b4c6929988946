use Rattle.std.proofs.Common.{refl}
use Rattle.script_lines.specs.Joined.{joined}
use Rattle.interview_ends.proofs.ResumeLaws.{nothing_put}
use Rattle.interview_ends.proofs.resuming.put_front.Goals as goal

pub returns-in-Nothing : goal.returns-in-Nothing
returns-in-Nothing g c = λ front gives. nothing_put (g.K.Sink.output c.args.out.now) front _ (rw c.in-Nothing.is at gives)

pub put_dropped-requires : goal.put_dropped-requires
put_dropped-requires g c = rw c.as_slice.ensures.value ((rw c.in-Lines.is at c.requires.1).1)

pub returns-in-Lines : goal.returns-in-Lines
returns-in-Lines g c = λ front gives.
    let are = (rw c.in-Lines.is at gives).0 in
    record {
      bytes = (rw (c.as_slice.ensures.value, c.as_slice-in-Lines.ensures.value) at c.put_dropped.ensures.text) (joined front) (front, are, refl);
      puts = (rw (c.as_slice.ensures.value, c.as_slice-in-Lines.ensures.value) at c.put_dropped.ensures.puts) front are;
    }
