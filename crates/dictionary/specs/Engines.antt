-- What an engine counts beside its results, from change to change.
use Rattle.std.specs.Prelude.{◌≡◌, ℕ, ◌+◌, IsTrue}
use Rattle.fact_values.specs.declared.slot.Slot.{Slot}
use Rattle.answers.specs.Answered.{Answered}
use Rattle.dict_meaning.specs.Accepted.{Accepted}
use Rattle.dict_meaning.specs.Slots.{stands}
use Rattle.dict_meaning.specs.Touched.{stamped, touched_count}

-- how many changes were made; of each slot that stands, the number of the last change that touched it, and 0 if none did; how
-- many slots the last change touched
pub record Marks : Type 0 where
  pub changes : ℕ
  pub stamps : Slot → ℕ
  pub touched : ℕ

-- no change was made
pub record AreFresh (m : Marks) : Type 0 where
  pub changes : m.changes ≡ 0
  pub stamps : (s : Slot) → m.stamps s ≡ 0
  pub touched : m.touched ≡ 0

-- one more change was made, from the answers a to b
pub record AreMarkedBy (d : Accepted) (a b : Answered) (before after : Marks) : Type 0 where
  pub changes : after.changes ≡ before.changes + 1
  pub stamps : (s : Slot) → IsTrue (stands d.tree b s) → after.stamps s ≡ stamped d a b (before.changes + 1) before.stamps s
  pub touched : after.touched ≡ touched_count d a b

-- nothing was counted
pub record AreSameMarks (before after : Marks) : Type 0 where
  pub changes : after.changes ≡ before.changes
  pub stamps : (s : Slot) → after.stamps s ≡ before.stamps s
  pub touched : after.touched ≡ before.touched
