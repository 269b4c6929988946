use Rattle.std.proofs.Common.{◌≡◌, drop}
use Rattle.fact_values.specs.declared.slot.Slot.{Slot}
use Rattle.recalc.specs.Sharing.{with_copies}
use Rattle.recalc.proofs.start_cells.copy_cells.Given as goal

-- what is left to be copied leads to the whole
abbrev pub invariant-loop-fact : goal.invariant-loop-fact
invariant-loop-fact l =
    (s : Slot)
    → with_copies l.from.cells (drop l.fact-index l.facts) l.store.cells s
    ≡ with_copies l.from.cells l.facts l.initial.store.cells s
