-- The tests of values and results are equality.
use Rattle.std.proofs.Common.{◌≡◌, ℕ, ℤ, Bool, true, IsTrue, ◌↔◌, ◌&&◌, ◌==◌, refl, sym, ap, ap₂}
use Rattle.std.specs.Ordering.{int_eq}
use Rattle.std.specs.Cmp.{booleans_Decides, signed_Decides}
use Rattle.std.proofs.lemmas.Bool.Decides.{same_from_decides}
use Rattle.common_lemmas.proofs.Bools.{both}
use Rattle.common_lemmas.proofs.Bytes.{equal_bytes, same_bytes}
use Rattle.common_lemmas.proofs.Numbers.{equal_number, same_number}
use Rattle.fact_values.specs.declared.fault.ValueFault.{ValueFault}
use Rattle.fact_values.specs.declared.fault.ValueFault.TheVariants.{Overflow, ZeroDivide}
use Rattle.fact_values.specs.declared.value.Value.{Value}
use Rattle.fact_values.specs.declared.value.Value.TheVariants.{Boolean, Int, Dollar, Rational, Day, Text, Choice, Members, Item}
use Rattle.fact_values.specs.Rationals.{Ratio}
use Rattle.three_state.specs.declared.res.Res.{Res}
use Rattle.three_state.specs.declared.res.Res.TheVariants.{Complete, Placeholder, Incomplete, Fault}
use Rattle.three_state.specs.Equality.{fault_same, res_same, value_same}

int_eq-itself : (a : ℤ) → int_eq a a ≡ true
int_eq-itself a = (signed_Decides a a).1 refl

abbrev ratio : ℤ → ℕ → Ratio
ratio n d = record { num = n; den = d }

ratio-same : (a b : Ratio) → (int_eq a.num b.num && (a.den == b.den)) ≡ true → a ≡ b
ratio-same a b h =
    let parts = both (int_eq a.num b.num) (a.den == b.den) h in
    ap₂ ratio ((signed_Decides a.num b.num).0 parts.0) (same_number a.den b.den parts.1)

value_same-equal : (v w : Value) → value_same v w ≡ true → v ≡ w
value_same-equal (Boolean a) (Boolean b) h = ap Boolean ((booleans_Decides a b).0 h)
value_same-equal (Int a) (Int b) h = ap Int ((signed_Decides a b).0 h)
value_same-equal (Dollar a) (Dollar b) h = ap Dollar ((signed_Decides a b).0 h)
value_same-equal (Rational a) (Rational b) h = ap Rational (ratio-same a b h)
value_same-equal (Day a) (Day b) h = ap Day ((signed_Decides a b).0 h)
value_same-equal (Text a) (Text b) h = ap Text (same_bytes a b h)
value_same-equal (Choice list place) (Choice list' place') h =
    let parts = both (list == list') (place == place') h in
    ap₂ Choice (same_number list list' parts.0) (same_number place place' parts.1)
value_same-equal (Members a) (Members b) h = ap Members (same_bytes a b h)
value_same-equal (Item a) (Item b) h = ap Item (same_number a b h)
value_same-equal _ _ h = cc

value_same-itself : (v : Value) → value_same v v ≡ true
value_same-itself (Boolean a) = (booleans_Decides a a).1 refl
value_same-itself (Int a) = int_eq-itself a
value_same-itself (Dollar a) = int_eq-itself a
value_same-itself (Rational a) = rw (int_eq-itself a.num) (equal_number a.den)
value_same-itself (Day a) = int_eq-itself a
value_same-itself (Text a) = equal_bytes a
value_same-itself (Choice list place) = rw (equal_number list) (equal_number place)
value_same-itself (Members a) = equal_bytes a
value_same-itself (Item a) = equal_number a

pub value_same-Decides : (v w : Value) → IsTrue (value_same v w) ↔ (v ≡ w)
value_same-Decides v w = (value_same-equal v w, λ e. rw (sym e) (value_same-itself v))

fault_same-equal : (f g : ValueFault) → fault_same f g ≡ true → f ≡ g
fault_same-equal Overflow Overflow h = refl
fault_same-equal Overflow ZeroDivide h = cc
fault_same-equal ZeroDivide Overflow h = cc
fault_same-equal ZeroDivide ZeroDivide h = refl

fault_same-itself : (f : ValueFault) → fault_same f f ≡ true
fault_same-itself Overflow = refl
fault_same-itself ZeroDivide = refl

res_same-equal : (r s : Res) → res_same r s ≡ true → r ≡ s
res_same-equal (Complete v) (Complete w) h = ap Complete (value_same-equal v w h)
res_same-equal (Placeholder v) (Placeholder w) h = ap Placeholder (value_same-equal v w h)
res_same-equal Incomplete Incomplete h = refl
res_same-equal (Fault f) (Fault g) h = ap Fault (fault_same-equal f g h)
res_same-equal _ _ h = cc

res_same-itself : (r : Res) → res_same r r ≡ true
res_same-itself (Complete v) = value_same-itself v
res_same-itself (Placeholder v) = value_same-itself v
res_same-itself Incomplete = refl
res_same-itself (Fault f) = fault_same-itself f

pub res_same-Decides : (r s : Res) → IsTrue (res_same r s) ↔ (r ≡ s)
res_same-Decides r s = (res_same-equal r s, λ e. rw (sym e) (res_same-itself r))

-- a test that says when they are equal says the same
pub answers_value_same : (b : Bool) (v w : Value) → IsTrue b ↔ (v ≡ w) → b ≡ value_same v w
answers_value_same b v w decides = same_from_decides b (value_same v w) decides (value_same-Decides v w)
