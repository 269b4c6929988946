use Rattle.interview.proofs.CallOrderLaws.{name_then_saved}
use Rattle.interview.proofs.laws.name_then_saved.Goals as goal

pub returns : goal.returns
returns g c = name_then_saved g.H.Shelf.fetched g.S.Source.pulled g.K.Sink.output
