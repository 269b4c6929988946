-- What is noted of the slots that are read.
use Rattle.std.specs.Prelude.{◌≡◌, Bool, IsTrue, List, ◌++◌}
use Rattle.fact_values.specs.declared.slot.Slot.{Slot}

-- these were noted behind those before, where they are kept
abbrev pub Noted : Bool → List Slot → List Slot → List Slot → Type 0
Noted keeps before slots after = IsTrue keeps → after ≡ before ++ slots
