use Rattle.interview_ends.proofs.ResumeLaws.{load_begins, load_refused}
use Rattle.interview_ends.proofs.resuming.load_ready.Goals as goal

pub returns-in-Ok : goal.returns-in-Ok
returns-in-Ok c = record { resumed = load_begins _ c.args.bytes.now c.requires c.in-Ok.answers c.in-Ok.ensures.loaded; memory = tt }

pub returns-in-Err : goal.returns-in-Err
returns-in-Err c =
    let ended = load_refused _ c.args.bytes.now c.requires c.refused.result c.in-Err.fault c.in-Err.ensures.refused c.refused.ensures in
    record { resumed = ended.0; memory = ended.1 }
