use Rattle.std.proofs.Common.{◌≡◌, Bool, false, List, filter, ap, ◌∙◌, ◌++◌}
use Rattle.fact_values.specs.declared.slot.Slot.{Slot}
use Rattle.dictionary.specs.AcceptedParts.{accepted}
use Rattle.dict_meaning.specs.Slots.{stands}
use Rattle.explain.specs.Found.{has}
use Rattle.explain.specs.Reads.{new_among, slot_reads}
use Rattle.explain.specs.SessionContext.{tree_of}
use Rattle.explain.proofs.reading.reads_uncounted.Goals as goal

pub returns : goal.returns
returns g c =
    let s = c.args.session.now in
    let there = stands (tree_of s) s.timeline.now in
    let all : c.as_slice.result.now ≡ slot_reads (accepted s.dict) s.timeline.now c.args.slot = c.as_slice.ensures.value ∙ c.in_ok-all.ensures in
    c.in_ok-find_all.ensures.order
    ∙ ap (λ (ts : List Slot). ts ++ new_among (has c.new-found.result) (filter there c.as_slice.result.now)) c.new-first.ensures.items
    ∙ ap (λ (known : Slot → Bool). new_among known (filter there c.as_slice.result.now)) (λ i t. c.new-found.ensures t i)
    ∙ ap (λ (ts : List Slot). new_among (λ t. false) (filter there ts)) all
