-- How a change spreads from slot to slot.
use Rattle.std.specs.Prelude.{◌≡◌, ◌<◌, ℕ, Bool, false, ◌&&◌, ◌||◌, IsTrue, List, [], ◌∷◌}
use Rattle.std.specs.List.{list_any}
use Rattle.fact_values.specs.declared.slot.Slot.{Slot}
use Rattle.dict_meaning.specs.Slots.{slot_same}

abbrev pub is_in : List Slot → Slot → Bool
is_in slots s = list_any (slot_same s) slots

-- no slot stands twice in the list
abbrev pub NoTwice : List Slot → Type 0
NoTwice [] = Unit {0}
NoTwice (s ∷ ss) = (is_in ss s ≡ false) × NoTwice ss

-- what a loop has to know of a change
pub record Spread : Type 0 where
  -- the slots that stand after it, as a test and as a list
  pub stands : Slot → Bool
  pub standing : List Slot
  -- the change touches the slot by itself
  pub first : Slot → Bool
  -- where the first slot's result changes, the second is touched
  pub feeds : Slot → Slot → Bool
  -- the slot's result changes
  pub moved : Slot → Bool
  pub rank : Slot → ℕ

-- some slot of these feeds it and has moved
abbrev pub is_fed_by : Spread → List Slot → Slot → Bool
is_fed_by c ts s = list_any (λ t. c.feeds t s && c.moved t) ts

abbrev pub is_touched : Spread → Slot → Bool
is_touched c s = c.first s || is_fed_by c c.standing s

pub record IsSpread (c : Spread) : Type 0 where
  -- the list has exactly the slots that stand
  pub listed : (s : Slot) → is_in c.standing s ≡ c.stands s
  -- what feeds a slot is of lower rank
  pub rising : (t s : Slot) → IsTrue (c.feeds t s) → c.rank t < c.rank s
  -- a slot that stands and isn't touched keeps its result
  pub keeps : (s : Slot) → IsTrue (c.stands s) → is_touched c s ≡ false → c.moved s ≡ false
