use Rattle.recalc.proofs.ReaderLaws.{marks_feed}
use Rattle.recalc.proofs.laws.readers_let_fed_slots_wait.Goals as goal

pub returns : goal.returns
returns c = marks_feed
