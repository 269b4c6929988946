use Rattle.interview.proofs.CallOrderLaws.{no_call_behind_a_failed_one}
use Rattle.interview.proofs.laws.no_call_behind_a_failed_one.Goals as goal

pub returns : goal.returns
returns g c = no_call_behind_a_failed_one g.H.Shelf.fetched g.S.Source.pulled g.K.Sink.output
