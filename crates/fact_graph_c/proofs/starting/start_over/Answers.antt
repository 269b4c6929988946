use Rattle.std.proofs.Common.{sym, subst}
use Rattle.dictionary.specs.AcceptedParts.{accepted}
use Rattle.dict_meaning.specs.Fits.{AnswersFit}
use Rattle.dict_meaning.proofs.FitStart.{start_fits}
use Rattle.graph_session.specs.Rules.{rules}
use Rattle.fact_graph_c.proofs.StartLaws.{starts_fresh}
use Rattle.fact_graph_c.proofs.starting.start_over.Goals as goal

pub begin_silent-requires-clause-fit : goal.begin_silent-requires-clause-fit
begin_silent-requires-clause-fit g c = subst (AnswersFit (accepted c.args.dict).tree) (sym c.new.ensures) (start_fits (accepted c.args.dict).tree)

pub returns-in-Fresh : goal.returns-in-Fresh
returns-in-Fresh g c =
    let over = starts_fresh c.args.start (rules c.args.dict) c.args.saved.now _ c.begin_silent.result c.in-Fresh.is c.new.ensures (c.begin_silent.ensures.begun, c.begin_silent.ensures.memory) in
    record { started = over.0; refused = over.1 }
