use Rattle.std.proofs.Common.{length}
use Rattle.fg_io.specs.Sent.{Sent}
use Rattle.fg_io.proofs.PutLaws.{PutSoFar}
use Rattle.fg_io.proofs.write.put_all.Given as goal

abbrev pub invariant-loop-rest : goal.invariant-loop-rest
invariant-loop-rest g l = record {
  sent : Sent (g.K.Sink.output l.fn.out).taken (g.K.Sink.output l.out).taken l.fn.piece l.rest;
  puts : PutSoFar (g.K.Sink.output l.fn.out) (g.K.Sink.output l.out) l.fn.piece l.rest;
}

abbrev pub decreases-loop-rest : goal.decreases-loop-rest
decreases-loop-rest g l = length l.rest
