use Rattle.std.proofs.Common.{◌≡◌, ℕ, ◌≤◌, filter, length, ap, arith, ◌∙◌}
use Rattle.dictionary.specs.AcceptedParts.{AcceptedParts, accepted}
use Rattle.explain.specs.SessionContext.{tree_of}
use Rattle.explain.specs.Listing.{is_listed}
use Rattle.explain.proofs.ListingLaws.{all_standing, up_to_next}
use Rattle.explain.proofs.listing.list.Goals as goal

ends : (n m count : ℕ) → n ≤ m → m ≤ n → m ≡ count → n ≡ count
ends n m count h k e = omega arith

pub loop-before-preserved : goal.loop-before-preserved
loop-before-preserved g c =
    let s = c.args.session.now in
    up_to_next (tree_of s) s.timeline.now (is_listed s c.args.found.now) c.loop-before.before _ _ c.loop-before.invariant c.in_ok-take_fact.ensures

pub returns : goal.returns
returns g c =
    let s = c.args.session.now in
    let count =
    c.fact_count-before-end.ensures ∙ ap (λ (k : AcceptedParts). length (accepted k).tree.facts) c.dict.ensures in
    c.loop-before.invariant
    ∙ ap (filter (is_listed s c.args.found.now)) (all_standing (tree_of s) s.timeline.now c.loop-before.before (ends c.loop-before.before c.fact_count-before-end.result (length (tree_of s).facts) c.loop-before.auto.before-end c.loop-before-test.false count))
