use Rattle.interview.proofs.CallOrderLaws.{each_line_is_one_piece}
use Rattle.interview.proofs.laws.each_line_is_one_piece.Goals as goal

pub returns : goal.returns
returns g c = each_line_is_one_piece g.H.Shelf.fetched g.S.Source.pulled g.K.Sink.output
