use Rattle.std.proofs.Common.{[], ◌++◌, List, ℕ, drop, filter, map, sym, ap, ◌∙◌, ◌≡◌}
use Rattle.std.proofs.lemmas.List.{append-nil, drop_all}
use Rattle.evaluation.specs.Results.{slot}
use Rattle.explain.specs.Listing.{is_listed}
use Rattle.explain.proofs.ListingLaws.{taken_next}
use Rattle.explain.proofs.listing.take_members.Goals as goal

pub loop-member-preserved : goal.loop-member-preserved
loop-member-preserved g c =
    taken_next (is_listed c.args.session.now c.args.found.now) c.args.fact c.args.members.now c.loop-member.member-index c.loop-member-test.true _ _ c.in_ok-take_one.ensures
    ∙ c.loop-member.invariant

pub returns : goal.returns
returns g c =
    let now = c.loop-member.taken.items in
    let none : drop c.loop-member.member-index c.args.members.now ≡ [] = drop_all c.loop-member.member-index c.args.members.now c.loop-member-test.false in
    sym (append-nil now)
    ∙ sym (ap (λ (l : List ℕ). now ++ filter (is_listed c.args.session.now c.args.found.now) (map (slot c.args.fact) l)) none)
    ∙ c.loop-member.invariant
