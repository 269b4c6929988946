use Rattle.fg_io.proofs.Fetched.{contents_are_answered}
use Rattle.fg_io.proofs.laws.contents_are_answered.Goals as goal

pub returns : goal.returns
returns c = contents_are_answered
