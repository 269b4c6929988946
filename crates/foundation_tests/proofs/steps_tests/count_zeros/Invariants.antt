use Rattle.std.proofs.Common.{◌≡◌, ◌+◌, take}
use Rattle.std.specs.Prelude.{count_by, ◌==◌}
use Rattle.foundation_tests.proofs.steps_tests.count_zeros.Given as goal

abbrev pub invariant-loop-item : goal.invariant-loop-item
invariant-loop-item g l = record {
  count : l.zeros ≡ count_by (λ x. x == 0) (take l.item-index l.items);
  steps : l.steps ≡ l.initial.steps + l.item-index;
}
