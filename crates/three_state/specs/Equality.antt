-- When two results are equal, as a test.
use Rattle.std.specs.Prelude.{◌≡◌, ◌↔◌, IsTrue, Bool, true, false, ◌&&◌, ◌==◌}
use Rattle.std.specs.Bool.{beq}
use Rattle.std.specs.Ordering.{int_eq}
use Rattle.std.specs.Str.{bytes_eq}
use Rattle.fact_values.specs.declared.fault.ValueFault.{ValueFault}
use Rattle.fact_values.specs.declared.fault.ValueFault.TheVariants.{Overflow, ZeroDivide}
use Rattle.fact_values.specs.declared.value.Value.{Value}
use Rattle.fact_values.specs.declared.value.Value.TheVariants.{Boolean, Int, Dollar, Rational, Day, Text, Choice, Members, Item}
use Rattle.three_state.specs.declared.res.Res.{Res}
use Rattle.three_state.specs.declared.res.Res.TheVariants.{Complete, Placeholder, Incomplete, Fault}

-- of one kind, with equal numbers, terms, texts or members
abbrev pub value_same : Value → Value → Bool
value_same (Boolean a) (Boolean b) = beq a b
value_same (Int a) (Int b) = int_eq a b
value_same (Dollar a) (Dollar b) = int_eq a b
value_same (Rational a) (Rational b) = int_eq a.num b.num && (a.den == b.den)
value_same (Day a) (Day b) = int_eq a b
value_same (Text a) (Text b) = bytes_eq a b
value_same (Choice list place) (Choice list' place') = (list == list') && (place == place')
value_same (Members a) (Members b) = bytes_eq a b
value_same (Item a) (Item b) = a == b
value_same _ _ = false

abbrev pub fault_same : ValueFault → ValueFault → Bool
fault_same Overflow Overflow = true
fault_same ZeroDivide ZeroDivide = true
fault_same _ _ = false

-- of one kind, with equal values or the same fault
abbrev pub res_same : Res → Res → Bool
res_same (Complete v) (Complete w) = value_same v w
res_same (Placeholder v) (Placeholder w) = value_same v w
res_same Incomplete Incomplete = true
res_same (Fault f) (Fault g) = fault_same f g
res_same _ _ = false

-- the tests are equality
abbrev pub ValueSameIsEqual : Type 0
ValueSameIsEqual = (v w : Value) → IsTrue (value_same v w) ↔ (v ≡ w)

abbrev pub ResSameIsEqual : Type 0
ResSameIsEqual = (r s : Res) → IsTrue (res_same r s) ↔ (r ≡ s)
