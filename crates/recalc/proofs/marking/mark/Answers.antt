use Rattle.std.proofs.Common.{◌≡◌, ◌||◌, Bool, true, false, IsTrue, All, List, [], get_or, refl, ap, subst, sym, ◌∙◌, arith}
use Rattle.fact_values.specs.declared.slot.Slot.{Slot}
use Rattle.answers.specs.Answered.{Answered}
use Rattle.answers.specs.Meaning.{answered}
use Rattle.dictionary.specs.AcceptedParts.{accepted}
use Rattle.dict_source.specs.Finding.{IsNumber}
use Rattle.dep_index.specs.Readers.{readers_of}
use Rattle.dep_index.specs.declared.readers_of.ReaderOf.{ReaderOf}
use Rattle.dep_index.proofs.ReaderNumbers.{readers_are_facts}
use Rattle.dict_meaning.specs.Accepted.{Accepted}
use Rattle.dict_meaning.specs.Slots.{stands}
use Rattle.dirty_slots.specs.Places.{is_at_any}
use Rattle.dirty_slots.specs.Waiting.{waits}
use Rattle.recalc.specs.EngineInvariant.{IsGraphOf}
use Rattle.recalc.specs.PlacedReaders.{ArePlaced}
use Rattle.recalc.specs.Propagations.{setting_of}
use Rattle.recalc.specs.Running.{let_by_all}
use Rattle.recalc.specs.declared.dependency_graph.DependencyGraph.{DependencyGraph}
use Rattle.recalc.specs.declared.placed_readers.PlacedReaders.{PlacedReaders}
use Rattle.recalc.proofs.Outcomes.{on_ok_then}
use Rattle.recalc.proofs.PlacingLaws.{global_stands, placed_at, placed_let}
use Rattle.recalc.proofs.TransitionLaws.{number_of_standing}
use Rattle.recalc.proofs.marking.mark.Goals as goal

pub mark_all-requires : goal.mark_all-requires
mark_all-requires c =
    let d = accepted c.args.propagation.now.dict.now in
    let fact = c.args.slot.fact in
    subst (λ (rs : List ReaderOf). All (λ (r : ReaderOf). IsNumber d.tree.facts r.fact) rs) (sym c.readers-readers.ensures)
    (readers_are_facts d fact (readers_of c.args.graph.now.readers fact) (c.requires.graph.index.each fact (number_of_standing d (answered c.args.propagation.now.answers.now) c.args.slot c.requires.stands)))

pub index-readers-requires : goal.index-readers-requires
index-readers-requires c =
    let number = number_of_standing (accepted c.args.propagation.now.dict.now) (answered c.args.propagation.now.answers.now) c.args.slot c.requires.stands in
    omega (arith, number.1, c.requires.graph.placed.count, c.args.graph.now.placed.ok.0)

row_of : (d : Accepted) (a : Answered) (g : DependencyGraph) (s : Slot) (p : PlacedReaders) → IsGraphOf d g → IsTrue (stands d.tree a s) → p ≡ get_or g.placed.items s.fact p
    → ArePlaced d g.places.value s.fact (readers_of g.readers s.fact) [] p
row_of d a g s p graph there is =
    let number = number_of_standing d a s there in
    placed_at d g.places.value g.readers g.placed.items graph.placed s.fact p (omega (arith, number.1, graph.placed.count)) is

pub add_places-requires : goal.add_places-requires
add_places-requires c =
    let are = row_of (accepted c.args.propagation.now.dict.now) (answered c.args.propagation.now.answers.now) c.args.graph.now c.args.slot c.index-readers.result.now
    c.requires.graph c.requires.stands c.index-readers.ensures in
    rw (c.deref.ensures.value, c.requires.places) are.within

pub mark_all-requires-2 : goal.mark_all-requires-2
mark_all-requires-2 c =
    let are = row_of (accepted c.args.propagation.now.dict.now) (answered c.args.propagation.now.answers.now) c.args.graph.now c.args.slot c.index-readers.result.now
    c.requires.graph c.requires.stands c.index-readers.ensures in
    rw c.deref-2.ensures.value are.numbers

turned : (a w l : Bool) → ((a || w) || l) ≡ (w || (a || l))
turned true true l = refl
turned true false l = refl
turned false w l = refl

pub returns-clause-marked : goal.returns-clause-marked
returns-clause-marked c =
    let k = setting_of c.args.propagation.now in
    let g = c.args.graph.now in
    let s = c.args.slot in
    let old = c.args.queue.now in
    let p = c.index-readers.result.now in
    let are = row_of k.dict k.now g s p c.requires.graph c.requires.stands c.index-readers.ensures in
    on_ok_then c.mark_all-2.result c.mark_all-2.ensures.marked (λ marks q.
    marks q
    ∙ (λ i. (c.add_places.ensures.added q i || let_by_all k c.args.store.now.cells s (c.deref-2.ensures.value i) q))
    ∙ turned (is_at_any old.places c.deref.result.now q) (waits old q) (let_by_all k c.args.store.now.cells s p.others.items q)
    ∙ ap (λ b. waits old q || b)
    ((λ i. is_at_any (c.requires.places i) (c.deref.ensures.value i) q || let_by_all k c.args.store.now.cells s p.others.items q)
    ∙ placed_let k c.args.store.now.cells s q c.if-propagation.false (global_stands k.dict.tree k.now s c.requires.stands) g.places.value (readers_of g.readers s.fact) p are))
