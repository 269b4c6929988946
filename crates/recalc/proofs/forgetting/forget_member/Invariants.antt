use Rattle.std.proofs.Common.{◌≡◌, drop}
use Rattle.fact_values.specs.declared.slot.Slot.{Slot}
use Rattle.recalc.specs.EngineInvariant.{without_member}
use Rattle.recalc.proofs.forgetting.forget_member.Given as goal

-- what is left to be taken away leads to the whole
abbrev pub invariant-loop-fact : goal.invariant-loop-fact
invariant-loop-fact l =
    (s : Slot)
    → without_member l.store.cells l.member (drop l.fact-index l.facts) s
    ≡ without_member l.initial.store.cells l.member l.facts s
