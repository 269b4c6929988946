use Rattle.std.proofs.Common.{◌≡◌, inl, inr, refl, subst}
use Rattle.fg_io.proofs.SentLaws.{sent_whole}
use Rattle.answers.specs.Meaning.{answered}
use Rattle.dictionary.specs.AcceptedParts.{accepted}
use Rattle.saved_text.specs.SavedText.{saved_lines}
use Rattle.session_lines.specs.Writing.{WroteLines, WroteSome}
use Rattle.interview_ends.proofs.saving.save_answers.Goals as goal

pub returns-in-Ok : goal.returns-in-Ok
returns-in-Ok g c =
    let lines : saved_lines (accepted c.dict.result.now).tree (answered c.answers.result.now) ≡ saved_lines (accepted c.args.session.now.dict).tree c.args.session.now.timeline.now =
    λ i. saved_lines (accepted (c.dict.ensures i)).tree (c.answers.ensures.value i) in
    inl (refl, subst (WroteLines (g.K.Sink.output c.args.out.now) (g.K.Sink.output c.save.new.out)) lines (record { bytes = sent_whole _ _ _ (rw c.in-Ok.is at c.save.ensures.whole); puts = rw c.in-Ok.is at c.save.ensures.puts }))

pub returns-in-Err : goal.returns-in-Err
returns-in-Err g c =
    let lines : saved_lines (accepted c.dict.result.now).tree (answered c.answers.result.now) ≡ saved_lines (accepted c.args.session.now.dict).tree c.args.session.now.timeline.now =
    λ i. saved_lines (accepted (c.dict.ensures i)).tree (c.answers.ensures.value i) in
    inr (refl, subst (WroteSome (g.K.Sink.output c.args.out.now) (g.K.Sink.output c.save.new.out)) lines (record { bytes = c.save.ensures.part; puts = rw c.in-Err.is at c.save.ensures.puts }))
