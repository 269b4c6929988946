use Rattle.std.proofs.Common.{map, drop}
use Rattle.dictionary.specs.AcceptedParts.{accepted}
use Rattle.dict_meaning.specs.SlotText.{slot_text}
use Rattle.session_lines.specs.Marks.{marked}
use Rattle.session_lines.proofs.WritingLaws.{LinesSoFar}
use Rattle.session_lines.proofs.listing.put_slots.Given as goal

abbrev pub invariant-loop-slot : goal.invariant-loop-slot
invariant-loop-slot g l =
    LinesSoFar (g.K.Sink.output l.fn.out) (g.K.Sink.output l.out) (map (λ s. marked l.mark (slot_text (accepted l.session.dict).tree s)) l.slots)
    (map (λ s. marked l.mark (slot_text (accepted l.session.dict).tree s)) (drop l.slot-index l.slots))
