use Rattle.std.proofs.Common.{◌≡◌}
use Rattle.std.specs.BTreeSet.{btree_set_len}
use Rattle.dirty_slots.specs.MemberBits.{Headed}
use Rattle.dirty_slots.proofs.unplaced.first_headed.Given as goal

abbrev pub invariant-loop-head : goal.invariant-loop-head
invariant-loop-head l = record {
  headed : Headed l.rows l.heads.keys;
  same : l.rows ≡ l.initial.rows;
}

abbrev pub decreases-loop-head : goal.decreases-loop-head
decreases-loop-head l = btree_set_len l.heads
