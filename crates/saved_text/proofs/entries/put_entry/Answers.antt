use Rattle.saved_text.proofs.Common.{Ok, Option, Value, accepted, answered, entry_lines_of, subst, sym}
use Rattle.fg_io.specs.declared.error.Failed.{Failed}
use Rattle.saved_text.proofs.LinesLeft.{wrote_none}
use Rattle.saved_text.proofs.SlotTexts.{entry_printed, entry_slot}
use Rattle.saved_text.specs.Writing.{WroteAs}
use Rattle.saved_text.proofs.entries.put_entry.Goals as goal

pub put_value-requires-clause-slot : goal.put_value-requires-clause-slot
put_value-requires-clause-slot g c = entry_slot (accepted c.args.dict.now).tree (answered c.args.answers.now) c.requires c.args.side c.args.slot c.in-Some.value.now (sym c.in-Some.ensures)

pub put_value-requires-clause-listed : goal.put_value-requires-clause-listed
put_value-requires-clause-listed g c = entry_printed (accepted c.args.dict.now).tree (answered c.args.answers.now) c.requires c.args.side c.args.slot c.in-Some.value.now (sym c.in-Some.ensures)

pub returns-in-None : goal.returns-in-None
returns-in-None g c =
    let out = g.K.Sink.output c.args.out.now in
    subst (λ (o : Option Value). WroteAs {T = Unit {0}} {E = Failed} out out (entry_lines_of c.args.side (accepted c.args.dict.now).tree c.args.slot o) (Ok tt)) c.in-None.ensures (wrote_none out tt)

pub returns-in-Some : goal.returns-in-Some
returns-in-Some g c =
    subst (λ (o : Option Value). WroteAs (g.K.Sink.output c.args.out.now) (g.K.Sink.output c.put_value.new.out) (entry_lines_of c.args.side (accepted c.args.dict.now).tree c.args.slot o) c.put_value.result)
    c.in-Some.ensures c.put_value.ensures
