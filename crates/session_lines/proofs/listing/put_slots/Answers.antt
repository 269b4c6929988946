use Rattle.std.proofs.Common.{ℕ, ◌+◌, List, [], ◌∷◌, map, drop, ap, subst, arith}
use Rattle.std.proofs.lemmas.List.{drop_all}
use Rattle.fact_values.specs.declared.slot.Slot.{Slot}
use Rattle.dictionary.specs.AcceptedParts.{accepted}
use Rattle.dict_meaning.specs.SlotText.{slot_text}
use Rattle.session_lines.specs.Marks.{marked}
use Rattle.session_lines.proofs.ListingLaws.{next_line}
use Rattle.session_lines.proofs.WritingLaws.{LinesSoFar, so_far_all, so_far_fails, so_far_none, so_far_on}
use Rattle.session_lines.proofs.listing.put_slots.Goals as goal

pub loop-slot-init : goal.loop-slot-init
loop-slot-init g c = so_far_none _ _

pub returns-in-Err : goal.returns-in-Err
returns-in-Err g c =
    let f : Slot → List ℕ = λ s. marked c.args.mark (slot_text (accepted c.args.session.now.dict).tree s) in
    so_far_fails _ _ _ (map f c.args.slots.now) (f _ ∷ []) (map f (drop (c.loop-slot.slot-index + 1) c.args.slots.now))
    (subst (LinesSoFar _ _ _) (next_line f c.args.slots.now c.loop-slot.slot-index _ c.loop-slot-test.true) c.loop-slot.invariant)
    c.in-Err.ensures

pub loop-slot-preserved : goal.loop-slot-preserved
loop-slot-preserved g c =
    let f : Slot → List ℕ = λ s. marked c.args.mark (slot_text (accepted c.args.session.now.dict).tree s) in
    so_far_on _ _ _ (map f c.args.slots.now) (f _ ∷ []) (map f (drop (c.loop-slot.slot-index + 1) c.args.slots.now))
    (subst (LinesSoFar _ _ _) (next_line f c.args.slots.now c.loop-slot.slot-index _ c.loop-slot-test.true) c.loop-slot.invariant)
    c.in-Ok.ensures

pub returns : goal.returns
returns g c =
    let f : Slot → List ℕ = λ s. marked c.args.mark (slot_text (accepted c.args.session.now.dict).tree s) in
    so_far_all _ _ _ _ (ap (map f) (drop_all c.loop-slot.slot-index c.args.slots.now (omega (arith, c.loop-slot-test.false)))) c.loop-slot.invariant
