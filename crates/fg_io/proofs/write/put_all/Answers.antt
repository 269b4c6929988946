use Rattle.std.proofs.Common.{arith}
use Rattle.fg_io.proofs.PutLaws.{put_fails_as, put_more, put_nothing}
use Rattle.fg_io.proofs.SentLaws.{sent_behind, sent_none}
use Rattle.fg_io.proofs.write.put_all.Goals as goal

pub loop-rest-init : goal.loop-rest-init
loop-rest-init g c = record { sent = sent_none _ _; puts = put_nothing _ _ }

pub loop-rest-preserved : goal.loop-rest-preserved
loop-rest-preserved g c = record {
  sent = sent_behind _ _ _ _ _ _ _ c.loop-rest.invariant.sent c.in_ok-count.ensures.bytes (omega arith);
  puts = put_more _ _ _ _ _ _ _ c.loop-rest.invariant.puts c.in_ok-count.ensures.call c.in_ok-count.ensures.cause (omega arith);
}

pub returns-in_err-count-clause-puts : goal.returns-in_err-count-clause-puts
returns-in_err-count-clause-puts g c =
    put_fails_as _ c.from_residual.result c.from_residual.ensures.1 _ _ _ _ _ c.loop-rest.invariant.puts c.in_err-count.ensures.call c.in_err-count.ensures.cause
