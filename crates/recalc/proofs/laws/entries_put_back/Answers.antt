use Rattle.recalc.proofs.ReplacingLaws.{entry_can_put_back, entry_keeps_before}
use Rattle.recalc.proofs.laws.entries_put_back.Goals as goal

pub returns : goal.returns
returns c = record { before = entry_keeps_before; can = entry_can_put_back }
