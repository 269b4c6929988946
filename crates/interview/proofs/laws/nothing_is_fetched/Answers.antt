use Rattle.interview.proofs.CallOrderLaws.{nothing_is_fetched}
use Rattle.interview.proofs.laws.nothing_is_fetched.Goals as goal

pub returns : goal.returns
returns g c = nothing_is_fetched g.H.Shelf.fetched g.S.Source.pulled g.K.Sink.output
