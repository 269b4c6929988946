use Rattle.std.proofs.Common.{List, ◌≡◌, ◌&&◌, Bool, sym, ap, subst}
use Rattle.std.specs.Prelude.{IfOk}
use Rattle.common_lemmas.proofs.Lists.{same_filter}
use Rattle.fact_values.specs.declared.slot.Slot.{Slot}
use Rattle.dict_meaning.specs.Accepted.{IsAccepted}
use Rattle.dictionary.specs.AcceptedParts.{AcceptedParts, accepted, names_of}
use Rattle.dict_meaning.specs.Slots.{standing}
use Rattle.explain.specs.Listing.{is_listed}
use Rattle.explain.specs.Missing.{Keeps, is_missing, is_unanswered}
use Rattle.explain.proofs.KeepLaws.{missing_keep}
use Rattle.explain.proofs.ListingLaws.{if_ok}
use Rattle.explain.proofs.missing_answers.missing.Goals as goal

pub returns-clause-value : goal.returns-clause-value
returns-clause-value g c =
    let s = c.args.session.now in
    let d = accepted s.dict in
    subst (λ (l : List Slot). IfOk c.list.result (λ ts. ts.items ≡ l))
    (same_filter (is_listed s c.in_ok-found.found) (is_missing d s.timeline.now c.args.slot) (λ t. ap (λ (b : Bool). b && is_unanswered d.tree s.timeline.now t) (c.in_ok-found.ensures t)) (standing d.tree s.timeline.now))
    c.list.ensures

pub returns-clause-keeps : goal.returns-clause-keeps
returns-clause-keeps g c =
    let s = c.args.session.now in
    let d = accepted s.dict in
    if_ok _ _
    (λ ts e.
    subst (λ (l : List Slot). Keeps d s.timeline.now c.args.slot l) (sym e)
    (missing_keep (names_of s.dict.checks) d
    (subst (λ (k : AcceptedParts). IsAccepted (names_of k.checks) (accepted k)) c.dict-dict.ensures c.source-accepted.ensures.is_accepted)
    s.timeline.now c.args.slot c.requires))
    c.list.result (returns-clause-value g c)
