use Rattle.std.proofs.Common.{List, map, sym, subst, ◌∙◌}
use Rattle.std.specs.Prelude.{All, IsTrue}
use Rattle.fact_values.specs.declared.slot.Slot.{Slot}
use Rattle.dictionary.specs.AcceptedParts.{accepted}
use Rattle.dict_meaning.specs.SlotText.{slot_text}
use Rattle.dict_meaning.specs.Slots.{stands}
use Rattle.session_lines.specs.Answering.{OutputAs}
use Rattle.session_lines.proofs.AnsweringLaws.{written_output}
use Rattle.session_lines.proofs.ProgressLaws.{wrote_written}
use Rattle.session_lines.proofs.reading.write_reads.Goals as goal

pub put_slots-requires : goal.put_slots-requires
put_slots-requires g c =
    let d = accepted c.args.session.now.dict in
    let a = c.args.session.now.timeline.now in
    subst (λ (l : List Slot). All (λ s. IsTrue (stands d.tree a s)) l) (sym c.deref.ensures.value) c.in-Ok.ensures.stand

pub returns-in-Ok-clause-output : goal.returns-in-Ok-clause-output
returns-in-Ok-clause-output g c =
    let f = slot_text (accepted c.args.session.now.dict).tree in
    subst (λ (l : List Slot). OutputAs (g.K.Sink.output c.args.out.now) (g.K.Sink.output c.put_slots.new.out) (map f l) c.as_progress.result) (c.deref.ensures.value ∙ c.in-Ok.ensures.value)
    (written_output _ _ (map f c.deref.result.now) c.as_progress.result (wrote_written _ _ _ c.put_slots.result c.as_progress.result c.as_progress.ensures c.put_slots.ensures))
