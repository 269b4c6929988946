use Rattle.script_runs.proofs.SoFarLaws.{pieces_follow_replies}
use Rattle.interview.proofs.laws.pieces_follow_replies.Goals as goal

pub returns : goal.returns
returns g c = pieces_follow_replies g.S.Source.pulled g.K.Sink.output
