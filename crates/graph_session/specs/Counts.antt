-- Stamps, and how many slots the last change touched.
use Rattle.std.specs.Prelude.{ℕ, Bool, List, [], ◌∷◌, map, Option, Some, None, if◌then◌else◌}
use Rattle.fact_values.specs.declared.slot.Slot.{Slot}
use Rattle.answers.specs.Answered.{Answered}
use Rattle.dict_meaning.specs.Accepted.{Accepted}
use Rattle.dictionary.specs.Engines.{Marks}
use Rattle.dict_meaning.specs.Slots.{slot_same, standing}
use Rattle.dict_meaning.specs.Touched.{stamped, touched_count}

-- the stamp of each slot that stands, and how many slots the last change touched
pub record Counts : Type 0 where
  pub stamps : List (Slot × ℕ)
  pub touched : ℕ

-- the stamps of the slots that stand
abbrev pub stamps_of : Accepted → Answered → (Slot → ℕ) → List (Slot × ℕ)
stamps_of d a stamps = map (λ s. (s, stamps s)) (standing d.tree a)

-- a slot's stamp: 0 where the list has none
abbrev pub stamp_in : List (Slot × ℕ) → Slot → ℕ
stamp_in [] s = 0
stamp_in (e ∷ es) s = if slot_same s e.0 then e.1 else stamp_in es s

-- before any change
abbrev pub no_counts : Accepted → Answered → Counts
no_counts d a = record { stamps = stamps_of d a (λ s. 0); touched = 0 }

-- after the change of number k, from answers a to b
abbrev pub next_counts : Accepted → Answered → Answered → ℕ → Counts → Counts
next_counts d a b k c = record { stamps = stamps_of d b (stamped d a b k (stamp_in c.stamps)); touched = touched_count d a b }

-- what an engine counts
abbrev pub counts_of : Accepted → Answered → Marks → Counts
counts_of d a m = record { stamps = stamps_of d a m.stamps; touched = m.touched }

-- ---- where an engine may keep no stamps

abbrev pub stamp_of : Option Counts → Slot → ℕ
stamp_of None s = 0
stamp_of (Some c) s = stamp_in c.stamps s

abbrev pub touched_of : Option Counts → ℕ
touched_of None = 0
touched_of (Some c) = c.touched

-- the stamp that is offered of a slot: of one that stands
abbrev pub stamp_offered : Bool → Option Counts → Slot → Option ℕ
stamp_offered stands None s = None
stamp_offered stands (Some c) s = if stands then Some (stamp_in c.stamps s) else None
