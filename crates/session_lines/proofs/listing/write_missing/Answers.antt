use Rattle.std.proofs.Common.{List, sym, subst, ◌∙◌}
use Rattle.std.specs.Prelude.{All, IsTrue}
use Rattle.fact_values.specs.declared.slot.Slot.{Slot}
use Rattle.dictionary.specs.AcceptedParts.{accepted}
use Rattle.dict_meaning.specs.Slots.{stands}
use Rattle.session_lines.proofs.ListingLaws.{missing_stand}
use Rattle.session_lines.proofs.listing.write_missing.Goals as goal

pub put_missing-requires : goal.put_missing-requires
put_missing-requires g c =
    let d = accepted c.args.session.now.dict in
    let a = c.args.session.now.timeline.now in
    subst (λ (l : List Slot). All (λ s. IsTrue (stands d.tree a s)) l) (sym (c.deref.ensures.value ∙ c.in-Ok.ensures.value)) (missing_stand d a c.args.slot)
