use Rattle.fact_graph_c.proofs.StartLaws.{not_started, starts}
use Rattle.fact_graph_c.proofs.starting.start_by.Goals as goal

pub returns-in-Ok : goal.returns-in-Ok
returns-in-Ok g c =
    let over = starts c.args.start c.args.bytes.now c.args.saved.now _ c.start_over.result c.in-Ok.ensures.accepted c.start_over.ensures.started c.start_over.ensures.refused in
    record { started = over.0; refused = over.1 }

pub returns-in-Err : goal.returns-in-Err
returns-in-Err g c = record { started = tt; refused = not_started c.args.start c.args.bytes.now c.args.saved.now c.in-Err.why c.in-Err.ensures.refused }
