use Rattle.std.proofs.Common.{◌≡◌, List, ℕ, ◌++◌, refl, ap, ◌∙◌}
use Rattle.answers.specs.Meaning.{answered}
use Rattle.dictionary.specs.AcceptedParts.{accepted}
use Rattle.saved_text.specs.SavedText.{saved}
use Rattle.fact_graph_c.proofs.TextLaws.{put_whole}
use Rattle.fact_graph_c.proofs.saving.save_answers.Goals as goal

pub returns-in-Ok : goal.returns-in-Ok
returns-in-Ok c =
    let put : List ℕ = saved (accepted c.dict.result.now).tree (answered c.answers.result.now) in
    let text : put ≡ saved (accepted c.args.engine.now.session.dict).tree c.args.engine.now.session.timeline.now =
    λ i. saved (accepted (c.dict.ensures i)).tree (c.answers.ensures.value i) in
    record {
      text = put_whole _ _ _ _ put (rw c.in-Ok.is at c.save.ensures.whole) ∙ ap (λ (t : List ℕ). t ++ put) c.clear.ensures ∙ text;
      session = refl;
      watches = refl;
      over = refl;
    }
