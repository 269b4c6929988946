use Rattle.std.proofs.Common.{List, take, sym, subst}
use Rattle.std.proofs.lemmas.List.{take_all, take_more}
use Rattle.fact_values.specs.declared.slot.Slot.{Slot}
use Rattle.explain.specs.SessionContext.{tree_of}
use Rattle.explain.specs.Walk.{AddsReads}
use Rattle.explain.proofs.WalkLaws.{none_added, one_more_added}
use Rattle.explain.proofs.walk.find_all.Goals as goal

pub loop-slot-init : goal.loop-slot-init
loop-slot-init g c = let s = c.args.session.now in none_added (tree_of s) s.timeline.now c.args.found.now c.args.todo.now.items

pub loop-slot-preserved : goal.loop-slot-preserved
loop-slot-preserved g c =
    let s = c.args.session.now in
    let i = c.loop-slot.slot-index in
    subst (λ (xs : List Slot). AddsReads (tree_of s) s.timeline.now xs c.args.found.now c.find_one.new.found c.args.todo.now.items c.find_one.new.todo.items)
    (sym (take_more c.args.slots.now i _ c.loop-slot-test.true))
    (one_more_added (tree_of s) s.timeline.now (take i c.args.slots.now) _ _ _ _ _ _ _ c.loop-slot.invariant c.in_ok-find_one.ensures)

pub returns : goal.returns
returns g c =
    let s = c.args.session.now in
    subst (λ (xs : List Slot). AddsReads (tree_of s) s.timeline.now xs c.args.found.now c.loop-slot.found c.args.todo.now.items c.loop-slot.todo.items)
    (take_all c.loop-slot.slot-index c.args.slots.now c.loop-slot-test.false) c.loop-slot.invariant
