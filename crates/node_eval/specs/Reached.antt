-- The result at which a Dependency ends.
use Rattle.three_state.specs.Folds.{down_unless}
use Rattle.three_state.specs.declared.res.Res.{Res}
use Rattle.node_eval.specs.declared.reads.Reached.{Reached}

abbrev pub reached : Reached → Res
reached end = down_unless end.complete end.res.now
