-- Laws of the loop over the slots that wait.
use Rattle.std.specs.Prelude.{◌≡◌, ◌≤◌, ℕ, Bool, false, ◌&&◌, IsTrue, List, [], ◌∷◌, ◌++◌, filter, sum_by}
use Rattle.fact_values.specs.declared.slot.Slot.{Slot}
use Rattle.recalc.specs.Spread.{Spread, is_in, is_touched, IsSpread, NoTwice}
use Rattle.recalc.specs.Marking.{IsLeast, IsMarked, IsNext}

-- it starts where those wait that the change touches by itself
abbrev pub StartMarks : Type 0
StartMarks = (c : Spread) (dirty : Slot → Bool) → ((s : Slot) → dirty s ≡ (c.stands s && c.first s)) → IsMarked c [] dirty

-- a turn takes a slot of the lowest rank
abbrev pub TurnMarks : Type 0
TurnMarks =
    (c : Spread) → IsSpread c → (done : List Slot) (dirty : Slot → Bool) → IsMarked c done dirty
    → (s : Slot) → IsTrue (dirty s) → IsLeast c dirty (c.rank s) → (next : Slot → Bool) → IsNext c dirty s next → IsMarked c (done ++ s ∷ []) next

-- a slot that stands, is neither done nor waits, and is of no higher rank than what waits, isn't touched
abbrev pub LowerSettle : Type 0
LowerSettle =
    (c : Spread) → IsSpread c → (done : List Slot) (dirty : Slot → Bool) → IsMarked c done dirty
    → (s : Slot) → IsTrue (c.stands s) → is_in done s ≡ false → dirty s ≡ false → IsLeast c dirty (c.rank s) → is_touched c s ≡ false

-- once nothing waits, what is done is what is touched
abbrev pub DoneAreTouched : Type 0
DoneAreTouched =
    (c : Spread) → IsSpread c → (done : List Slot) (dirty : Slot → Bool) → IsMarked c done dirty
    → ((s : Slot) → dirty s ≡ false) → (s : Slot) → is_in done s ≡ (c.stands s && is_touched c s)

-- ---- sums over slots

abbrev pub touched_of : Spread → List Slot
touched_of c = filter (is_touched c) c.standing

-- what is done never weighs more than what is touched, also with one more that waits
abbrev pub DoneWeighLess : Type 0
DoneWeighLess =
    (c : Spread) → IsSpread c → (done : List Slot) (dirty : Slot → Bool) → IsMarked c done dirty
    → (weight : Slot → ℕ)
    → (sum_by weight done ≤ sum_by weight (touched_of c))
    × ((s : Slot) → IsTrue (dirty s) → sum_by weight (done ++ s ∷ []) ≤ sum_by weight (touched_of c))

-- and once nothing waits, it weighs the same
abbrev pub DoneWeighAll : Type 0
DoneWeighAll =
    (c : Spread) → IsSpread c → NoTwice c.standing → (done : List Slot) (dirty : Slot → Bool) → IsMarked c done dirty
    → ((s : Slot) → dirty s ≡ false) → (weight : Slot → ℕ) → sum_by weight done ≡ sum_by weight (touched_of c)
