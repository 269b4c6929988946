-- Slots with a place each, and which of them are marked.
use Rattle.std.specs.Prelude.{ℕ, suc, Bool, ◌&&◌, ◌||◌, nat_eq, nat_lt, IsTrue, if◌then◌else◌, List, [], ◌∷◌, slice_get}
use Rattle.std.specs.List.{list_any}
use Rattle.dirty_slots.specs.Slots.{DirtySlots, is_dirty}
use Rattle.dirty_slots.specs.declared.dirty_slot.DirtySlot.{DirtySlot}

abbrev pub is_before : DirtySlot → DirtySlot → Bool
is_before s t = nat_lt s.rank t.rank || (nat_eq s.rank t.rank && nat_lt s.fact t.fact)

abbrev pub Each : (DirtySlot → Type 0) → DirtySlots → Type 0
Each P [] = Unit {0}
Each P (s ∷ ss) = P s × Each P ss

-- each is before all that follow
abbrev pub AreRising : DirtySlots → Type 0
AreRising [] = Unit {0}
AreRising (s ∷ ss) = Each (λ t. IsTrue (is_before s t)) ss × AreRising ss

-- those whose place is marked
abbrev pub marked : (ℕ → Bool) → DirtySlots → DirtySlots
marked marks [] = []
marked marks (s ∷ ss) = if marks 0 then s ∷ marked (λ i. marks (suc i)) ss else marked (λ i. marks (suc i)) ss

-- it is the slot at one of these places
abbrev pub is_at_any : DirtySlots → List ℕ → DirtySlot → Bool
is_at_any slots places q = list_any (λ p. is_dirty (slice_get slots p) q) places
