use Rattle.std.proofs.Common.{◌≡◌, List, ℕ, ◌++◌, refl, ap, ◌∙◌}
use Rattle.answers.specs.Meaning.{answered}
use Rattle.dictionary.specs.AcceptedParts.{accepted}
use Rattle.saved_text.specs.SavedText.{saved}
use Rattle.graph_session.specs.SessionView.{SessionView}
use Rattle.fact_graph_c.proofs.TextLaws.{put_whole}
use Rattle.fact_graph_c.proofs.desk_saving.save_desk.Goals as goal

pub returns-in-Ok : goal.returns-in-Ok
returns-in-Ok c =
    let put : List ℕ = saved (accepted c.dict.result.now).tree (answered c.answers.result.now) in
    let text : put ≡ saved (accepted c.args.engine.now.desk.session.dict).tree c.args.engine.now.desk.session.timeline.now =
    λ i. saved (accepted ((c.dict.ensures ∙ ap (λ (s : SessionView). s.dict) c.session-session.ensures) i)).tree ((c.answers.ensures.value ∙ ap (λ (s : SessionView). s.timeline.now) c.session-session.ensures) i) in
    record {
      text = put_whole _ _ _ _ put (rw c.in-Ok.is at c.save.ensures.whole) ∙ ap (λ (t : List ℕ). t ++ put) c.clear.ensures ∙ text;
      desk = refl;
      over = refl;
    }
