use Rattle.std.proofs.Common.{sym, subst, ◌∙◌}
use Rattle.dictionary.specs.AcceptedParts.{accepted}
use Rattle.dict_meaning.specs.Fits.{AnswersFit}
use Rattle.dict_meaning.proofs.FitStart.{start_fits}
use Rattle.fact_graph_c.proofs.DeskOpeningLaws.{opens_desk}
use Rattle.fact_graph_c.proofs.desk_opening.open_desk.Goals as goal

pub begin-requires-clause-fit : goal.begin-requires-clause-fit
begin-requires-clause-fit c = subst (AnswersFit (accepted c.in-Ok.dict).tree) (sym c.new.ensures) (start_fits (accepted c.in-Ok.dict).tree)

pub returns-in-Ok : goal.returns-in-Ok
returns-in-Ok c =
    let over = opens_desk c.args.bytes.now _ _ c.begin.result c.in-Ok.ensures.accepted c.new.ensures (c.begin.ensures.begun, c.begin.ensures.memory) in
    record { opened = over.0; refused = over.1 }
