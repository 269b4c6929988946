use Rattle.std.proofs.Common.{length, sym, ap, subst, arith, length-append}
use Rattle.dictionary.specs.AcceptedParts.{AcceptedParts, accepted, names_of}
use Rattle.dict_meaning.specs.SlotText.{IsSlot, slot_text}
use Rattle.dict_meaning.proofs.SlotTextLaws.{slot_short, standing_slot}
use Rattle.session_lines.proofs.firing.put_line.Goals as goal

pub print_slot-requires-clause-slot : goal.print_slot-requires-clause-slot
print_slot-requires-clause-slot g c =
    let slot_is = standing_slot (accepted c.args.session.now.dict).tree c.args.session.now.timeline.now c.answers-fit.ensures.fit.well c.answers-fit.ensures.fit.from_one c.args.slot c.requires in
    subst (λ (k : AcceptedParts). IsSlot (accepted k).tree c.args.slot) (sym c.dict-dict.ensures) slot_is

pub put_printed-requires : goal.put_printed-requires
put_printed-requires g c =
    let k = c.dict-dict.result.now in
    let slot_is = standing_slot (accepted c.args.session.now.dict).tree c.args.session.now.timeline.now c.answers-fit.ensures.fit.well c.answers-fit.ensures.fit.from_one c.args.slot c.requires in
    let short = slot_short (names_of k.checks) (accepted k) c.source-accepted.ensures.is_accepted c.args.slot (subst (λ (k : AcceptedParts). IsSlot (accepted k).tree c.args.slot) (sym c.dict-dict.ensures) slot_is) in
    omega (arith, ap length c.print_slot.ensures, length-append c.push-2.new.self (slot_text (accepted k).tree c.args.slot), short, c.push-2.ensures.len, c.print_relation.ensures.short, c.push.ensures.len, ap length c.new-line.ensures)
