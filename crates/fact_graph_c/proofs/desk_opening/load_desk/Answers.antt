use Rattle.graph_session.specs.Rules.{tree_of}
use Rattle.save_file.specs.Loading.{IsSavedText}
use Rattle.fact_graph_c.proofs.DeskOpeningLaws.{loads_desk}
use Rattle.fact_graph_c.proofs.StartLaws.{not_accepted}
use Rattle.fact_graph_c.proofs.desk_opening.load_desk.Goals as goal

pub returns-in-Ok : goal.returns-in-Ok
returns-in-Ok c =
    let over = loads_desk c.args.bytes.now c.args.saved.now _ c.begin_loaded.result c.in-Ok.ensures.accepted c.begin_loaded.ensures.loaded c.begin_loaded.ensures.refused in
    record { loaded = over.0; refused = over.1 }

pub returns-in-Err : goal.returns-in-Err
returns-in-Err c = record { loaded = tt; refused = not_accepted (λ s. IsSavedText (tree_of s)) c.args.bytes.now c.args.saved.now c.in-Err.why c.in-Err.ensures.refused }
