-- Which slots wait first.
use Rattle.std.specs.Prelude.{ℕ, ◌-◌, Bool, false, nat_eq, if◌then◌else◌, List, [], ◌∷◌, Option, Some, None}
use Rattle.std.specs.List.{list_any}
use Rattle.fact_values.specs.declared.slot.Slot.{Slot}
use Rattle.dict_source.specs.Dictionary.{Dictionary as Tree}
use Rattle.answers.specs.Answered.{Answered}
use Rattle.answers.specs.Change.{Change, takes, removes}
use Rattle.dict_meaning.specs.Accepted.{Accepted}
use Rattle.dict_meaning.specs.Homes.{home}
use Rattle.dict_meaning.specs.Plain.{rank}
use Rattle.dict_meaning.specs.Slots.{slot_same}
use Rattle.recalc.specs.Readers.{dirty_of}
use Rattle.dirty_slots.specs.Waiting.{dirty_same}
use Rattle.recalc.specs.declared.undone.Came.{Came}
use Rattle.dirty_slots.specs.declared.dirty_slot.DirtySlot.{DirtySlot}

abbrev pub is_slot : Option Slot → Slot → Bool
is_slot None s = false
is_slot (Some t) s = slot_same t s

-- the member that came with a change, and its collection
abbrev pub came_by : Change → Answered → Option Came
came_by (takes c closed) now = Some (record { list = c; member = now.next - 1 })
came_by (removes c n) now = Some (record { list = c; member = n })
came_by _ now = None

-- ---- facts that wait at members

-- what waits is the fact's slot at one of the members
abbrev pub is_at : Accepted → DirtySlot → List ℕ → ℕ → Bool
is_at d q ms fact = list_any (λ m. dirty_same q (record { rank = rank d fact; fact = fact; member = m })) ms

-- a fact of this home at this member, and one of another home nowhere
abbrev pub field_at : Tree → Came → ℕ → List ℕ
field_at d c fact = if nat_eq (home d fact) c.list then c.member ∷ [] else []

-- one of these facts at the member that came
abbrev pub is_field : Accepted → Came → List ℕ → DirtySlot → Bool
is_field d c facts q = list_any (λ f. is_at d q (field_at d.tree c f) f) facts

-- the member that came, if one did
abbrev pub is_came : Accepted → Option Came → List ℕ → DirtySlot → Bool
is_came d None facts q = false
is_came d (Some c) facts q = is_field d c facts q

-- the slot that differs, if one does
abbrev pub is_own : Accepted → Option Slot → DirtySlot → Bool
is_own d None q = false
is_own d (Some s) q = dirty_same q (dirty_of d s)
