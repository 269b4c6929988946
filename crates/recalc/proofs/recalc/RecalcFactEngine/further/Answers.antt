use Rattle.recalc.proofs.recalc.RecalcFactEngine.further.Goals as goal

pub at_start-requires : goal.at_start-requires
at_start-requires c = rw c.deref.ensures c.requires
