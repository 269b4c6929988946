use Rattle.explain.specs.Listing.{is_listed}
use Rattle.explain.proofs.ListingLaws.{taken_one}
use Rattle.explain.proofs.listing.take_one.Goals as goal

pub returns : goal.returns
returns g c = taken_one (is_listed c.args.session.now c.args.found.now) c.args.slot c.args.taken.now.items _ c.is_listed-wanted.result c.is_listed-wanted.ensures c.in_ok-push_if.ensures
