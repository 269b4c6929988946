use Rattle.std.proofs.Common.{◌≡◌, ◌++◌, filter, map, drop}
use Rattle.evaluation.specs.Results.{slot}
use Rattle.explain.specs.Listing.{is_listed}
use Rattle.explain.proofs.listing.take_members.Given as goal

abbrev pub invariant-loop-member : goal.invariant-loop-member
invariant-loop-member g l =
    l.taken.items ++ filter (is_listed l.session l.found) (map (slot l.fact) (drop l.member-index l.members))
    ≡ l.fn.taken.items ++ filter (is_listed l.session l.found) (map (slot l.fact) l.members)
