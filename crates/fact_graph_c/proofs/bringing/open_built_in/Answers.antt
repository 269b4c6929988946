use Rattle.std.proofs.Common.{◌≡◌, true, false, sym, subst, ◌∙◌}
use Rattle.dictionary.specs.AcceptedParts.{accepted}
use Rattle.dict_meaning.specs.Fits.{AnswersFit}
use Rattle.dict_meaning.proofs.FitStart.{start_fits}
use Rattle.fact_graph_c.proofs.OpeningLaws.{opens_built_in}
use Rattle.fact_graph_c.proofs.bringing.open_built_in.Goals as goal

pub begin_silent-requires-clause-same : goal.begin_silent-requires-clause-same
begin_silent-requires-clause-same c = λ named. absurd (let no : true ≡ false = sym named ∙ c.in-Ok.ensures.no_check in cc)

pub begin_silent-requires-clause-fit : goal.begin_silent-requires-clause-fit
begin_silent-requires-clause-fit c = subst (AnswersFit (accepted c.in-Ok.dict).tree) (sym c.new.ensures) (start_fits (accepted c.in-Ok.dict).tree)

pub returns-in-Ok : goal.returns-in-Ok
returns-in-Ok c =
    let over = opens_built_in c.args.words.now _ _ c.begin_silent.result c.in-Ok.ensures.brought c.new.ensures (c.begin_silent.ensures.begun, c.begin_silent.ensures.memory) in
    record { opened = over.0; refused = over.1 }
