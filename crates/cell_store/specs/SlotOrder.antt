-- The order of slots.
use Rattle.std.specs.Ordering.{nat_cmp, ordering_then}
use Rattle.std.specs.declared.cmp.Ordering.{Ordering}
use Rattle.fact_values.specs.declared.slot.Slot.{Slot}

-- by fact, and then by member
abbrev pub slot_cmp : Slot → Slot → Ordering
slot_cmp s t = ordering_then (nat_cmp s.fact t.fact) (nat_cmp s.member t.member)
