use Rattle.std.proofs.Common.{◌≡◌, List, subst, ap, ◌∙◌}
use Rattle.value_text.specs.Enums.{AreLists, Listed}
use Rattle.dict_meaning.specs.Accepted.{IsAccepted}
use Rattle.dict_meaning.specs.Fits.{AnswersFit}
use Rattle.dictionary.specs.AcceptedParts.{AcceptedParts, accepted, names_of}
use Rattle.graph_session.specs.SessionView.{SessionView}
use Rattle.fact_graph_c.proofs.desk_answering.know.Goals as goal

pub returns : goal.returns
returns c =
    let dict : c.dict.result.now ≡ c.args.engine.now.desk.session.dict = c.dict.ensures ∙ ap (λ (s : SessionView). s.dict) c.session-session.ensures in
    let enums : c.enums.result.now ≡ (accepted c.args.engine.now.desk.session.dict).tree.enums = c.enums.ensures ∙ ap (λ w. w.enums) (c.source-accepted.ensures.value ∙ ap (λ (k : AcceptedParts). k.source) dict) in
    record {
      is_accepted = subst (λ (k : AcceptedParts). IsAccepted (names_of k.checks) (accepted k)) dict c.source-accepted.ensures.is_accepted;
      lists = subst (λ (ls : List Listed). AreLists ls) enums c.len-lists.ensures.lists;
      fit = subst (λ (s : SessionView). AnswersFit (accepted s.dict).tree s.timeline.now) c.session-session.ensures c.answers-fit.ensures.fit;
    }
