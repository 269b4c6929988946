use Rattle.std.proofs.Common.{◌≡◌}
use Rattle.recalc.specs.Replacing.{before, CanPutBack, entries}
use Rattle.recalc.proofs.log.Log.put_back.Given as goal

abbrev pub invariant-loop-entry : goal.invariant-loop-entry
invariant-loop-entry l = record {
  can : CanPutBack (entries l.self) l.store.cells;
  back : before (entries l.self) l.store.cells ≡ before (entries l.initial.self) l.initial.store.cells;
}

abbrev pub decreases-loop-entry : goal.decreases-loop-entry
decreases-loop-entry l = goal.left-loop-entry l
