-- What a loop keeps that takes the slots that wait by rank, and lets those wait that a moved one feeds.
use Rattle.std.specs.Prelude.{◌≡◌, ◌≤◌, ℕ, Bool, false, not, ◌&&◌, ◌||◌, IsTrue, List}
use Rattle.fact_values.specs.declared.slot.Slot.{Slot}
use Rattle.dict_meaning.specs.Slots.{slot_same}
use Rattle.recalc.specs.Spread.{Spread, is_fed_by, is_in, is_touched, NoTwice}

-- each slot that waits is of this rank or a higher one
abbrev pub IsLeast : Spread → (Slot → Bool) → ℕ → Type 0
IsLeast c dirty n = (w : Slot) → IsTrue (dirty w) → n ≤ c.rank w

-- the slots done so far, and those that wait
pub record IsMarked (c : Spread) (done : List Slot) (dirty : Slot → Bool) : Type 0 where
  -- of the others that stand, those wait that the change touches by itself or that a done one feeds
  pub waiting : (s : Slot) → IsTrue (c.stands s) → is_in done s ≡ false → dirty s ≡ (c.first s || is_fed_by c done s)
  pub only : (s : Slot) → IsTrue (dirty s) → IsTrue (c.stands s) × (is_in done s ≡ false)
  -- what waits is of the rank of what is done, or higher
  pub rises : (t : Slot) → IsTrue (is_in done t) → IsLeast c dirty (c.rank t)
  -- what is done stands and is touched, and is done once
  pub right : (t : Slot) → IsTrue (is_in done t) → IsTrue (c.stands t) × IsTrue (is_touched c t)
  pub once : NoTwice done

-- what waits once s is done: what waited, and what s feeds if it moved
abbrev pub IsNext : Spread → (Slot → Bool) → Slot → (Slot → Bool) → Type 0
IsNext c dirty s next = (q : Slot) → next q ≡ ((dirty q && not (slot_same q s)) || (c.moved s && (c.stands q && c.feeds s q)))
