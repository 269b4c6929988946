use Rattle.std.proofs.Common.{IsTrue, List, false, sym, subst}
use Rattle.std.specs.Prelude.{All}
use Rattle.fact_values.specs.declared.slot.Slot.{Slot}
use Rattle.dictionary.specs.AcceptedParts.{accepted}
use Rattle.dict_meaning.specs.Slots.{stands}
use Rattle.explain.specs.Reads.{slot_reads, standing_reads}
use Rattle.explain.proofs.ListingLaws.{if_ok}
use Rattle.explain.proofs.SlotLists.{all_new, all_pass}
use Rattle.explain.proofs.reading.reads.Goals as goal

pub returns-clause-stand : goal.returns-clause-stand
returns-clause-stand g c =
    let d = accepted c.args.session.now.dict in
    let a = c.args.session.now.timeline.now in
    let there = λ (t : Slot). IsTrue (stands d.tree a t) in
    if_ok _ _
    (λ ts e. subst (λ (l : List Slot). All there l) (sym e) (all_new there (λ t. false) (standing_reads d a c.args.slot) (all_pass (stands d.tree a) (slot_reads d a c.args.slot))))
    c.reads_uncounted.result c.reads_uncounted.ensures
