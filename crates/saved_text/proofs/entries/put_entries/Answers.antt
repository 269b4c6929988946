use Rattle.saved_text.proofs.Common.{List, Slot, accepted, answered, ap, entries, entry_lines, flat_map, slots_left, subst, sym}
use Rattle.saved_text.proofs.LinesLeft.{LinesLeft, all_left, failed_next, left_each, none_left, wrote_next}
use Rattle.saved_text.proofs.entries.put_entries.Goals as goal

pub loop-slot-init : goal.loop-slot-init
loop-slot-init g c =
    let d = (accepted c.args.dict.now).tree in
    let a = answered c.args.answers.now in
    let out = g.K.Sink.output c.args.out.now in
    subst (λ (ss : List Slot). LinesLeft out out (entries c.args.side d a) (flat_map (entry_lines c.args.side d a) ss)) (sym c.new-cursor.ensures) (all_left out (entries c.args.side d a))

pub returns-in-Err : goal.returns-in-Err
returns-in-Err g c =
    let d = (accepted c.args.dict.now).tree in
    let a = answered c.args.answers.now in
    let f = entry_lines c.args.side d a in
    let rest = slots_left d a c.next.new.self in
    failed_next _ _ _ (entries c.args.side d a) (f c.in-Some.slot) (flat_map f rest) _ _
    (left_each f _ _ _ c.in-Some.slot (slots_left d a c.loop-slot.cursor) rest c.in-Some.ensures c.loop-slot.invariant)
    c.in-Err.ensures

pub loop-slot-preserved : goal.loop-slot-preserved
loop-slot-preserved g c =
    let d = (accepted c.args.dict.now).tree in
    let a = answered c.args.answers.now in
    let f = entry_lines c.args.side d a in
    let rest = slots_left d a c.next.new.self in
    wrote_next _ _ _ (entries c.args.side d a) (f c.in-Some.slot) (flat_map f rest) _
    (left_each f _ _ _ c.in-Some.slot (slots_left d a c.loop-slot.cursor) rest c.in-Some.ensures c.loop-slot.invariant)
    c.in-Ok.ensures

pub returns : goal.returns
returns g c =
    let d = (accepted c.args.dict.now).tree in
    let a = answered c.args.answers.now in
    none_left _ _ (entries c.args.side d a) _ _ (ap (flat_map (entry_lines c.args.side d a)) c.in_default.ensures) c.loop-slot.invariant
