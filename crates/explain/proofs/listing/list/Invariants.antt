use Rattle.std.proofs.Common.{◌≡◌, filter}
use Rattle.dict_meaning.specs.Slots.{slots_up_to}
use Rattle.explain.specs.SessionContext.{tree_of}
use Rattle.explain.specs.Listing.{is_listed}
use Rattle.explain.proofs.listing.list.Given as goal

abbrev pub invariant-loop-before : goal.invariant-loop-before
invariant-loop-before g l = l.taken.items ≡ filter (is_listed l.session l.found) (slots_up_to (tree_of l.session) l.session.timeline.now l.before)
