use Rattle.std.proofs.Common.{ℕ, List, [], ◌∷◌, map, ap, subst}
use Rattle.dictionary.specs.AcceptedParts.{accepted}
use Rattle.dict_meaning.specs.SlotText.{slot_text}
use Rattle.session_lines.specs.Marks.{marked, marked_lines}
use Rattle.session_lines.specs.Replies.{missing_count}
use Rattle.session_lines.specs.Writing.{WroteAs}
use Rattle.session_lines.proofs.MarkLaws.{marked_each}
use Rattle.session_lines.proofs.WritingLaws.{some_before, wrote_on}
use Rattle.session_lines.proofs.listing.put_missing.Goals as goal

pub returns-in-Err : goal.returns-in-Err
returns-in-Err g c =
    let lines = map (slot_text (accepted c.args.session.now.dict).tree) c.args.slots.now in
    some_before _ _ (marked c.args.mark (missing_count c.args.slots.now) ∷ []) (marked_lines c.args.mark lines) c.in-Err.ensures

pub returns-in-Ok : goal.returns-in-Ok
returns-in-Ok g c =
    let f = slot_text (accepted c.args.session.now.dict).tree in
    let first = marked c.args.mark (missing_count c.args.slots.now) in
    subst (λ (ls : List (List ℕ)). WroteAs (g.K.Sink.output c.args.out.now) (g.K.Sink.output c.put_slots.new.out) ls c.put_slots.result)
    (ap (λ (ls : List (List ℕ)). first ∷ ls) (marked_each c.args.mark f c.args.slots.now))
    (wrote_on _ _ _ (first ∷ []) (map (λ s. marked c.args.mark (f s)) c.args.slots.now) c.put_slots.result c.in-Ok.ensures c.put_slots.ensures)
