use Rattle.std.proofs.Common.{inl, inr, refl, arith}
use Rattle.fg_io.proofs.SentLaws.{sent_whole}
use Rattle.interview_ends.proofs.ending.end_by.Goals as goal

pub returns-in-Ok : goal.returns-in-Ok
returns-in-Ok g c = record { text = inl (refl, sent_whole _ _ _ c.in-Ok.ensures.whole); puts = inl (refl, c.in-Ok.ensures.puts) }

pub returns-in-Err : goal.returns-in-Err
returns-in-Err g c = record { text = inr (refl, omega (arith, c.in-Err.ensures.cause.0), c.in-Err.ensures.part); puts = inr (refl, c.in-Err.ensures.puts) }
