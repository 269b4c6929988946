use Rattle.interview_ends.proofs.ResumeLaws.{carry_begins, carry_refused}
use Rattle.interview_ends.proofs.resuming.carry_ready.Goals as goal

pub returns-in-Ok : goal.returns-in-Ok
returns-in-Ok g c = record { resumed = carry_begins _ c.args.bytes _ _ c.requires.short (rw c.as_slice.ensures.value at c.in-Ok.ensures.carried); memory = tt }

pub returns-in-Err : goal.returns-in-Err
returns-in-Err g c =
    let ended = carry_refused _ c.args.bytes.items c.requires.short c.refused.result c.in-Err.fault (rw c.as_slice.ensures.value at c.in-Err.ensures.refused) c.refused.ensures in
    record { resumed = ended.0; memory = ended.1 }
