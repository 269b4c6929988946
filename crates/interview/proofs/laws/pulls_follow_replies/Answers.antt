use Rattle.interview.proofs.CallOrderLaws.{pulls_follow_replies}
use Rattle.interview.proofs.laws.pulls_follow_replies.Goals as goal

pub returns : goal.returns
returns g c = pulls_follow_replies g.S.Source.pulled g.K.Sink.output
