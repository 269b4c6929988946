-- The facts of amounts: no sum overflows.
use Rattle.std.proofs.Common.{◌≡◌, ℕ, suc, ◌*◌, ◌≤◌, Bool, true, false, ◌&&◌, if◌then◌else◌, ◌||◌, IsTrue, int_lt, ℤ, pos, negsuc, ◌+ℤ◌, ◌-ℤ◌, ◌*ℤ◌, ◌≤ℤ◌, List, [], ◌∷◌, Ok, Some, is_ok, refl, ap, ◌∙◌, arith}
use Rattle.std.specs.Prelude.{◌==◌, option_map, unwrap_or}
use Rattle.std.proofs.lemmas.Bool.{lt-ltb}
use Rattle.std.proofs.lemmas.Int.{ints}
use Rattle.std.proofs.Math.Nat.{mul-le-mul_left}
use Rattle.fact_values.specs.Range.{is_in_range}
use Rattle.fact_values.specs.declared.value.Value.{Value}
use Rattle.fact_values.specs.declared.value.Value.TheVariants.{Boolean, Dollar, Int}
use Rattle.dict_source.specs.declared.operators.ManyOp.TheVariants.{Add, GreaterOf, LesserOf, Subtract}
use Rattle.dict_source.specs.declared.operators.TwoOp.TheVariants.{Multiply}
use Rattle.value_text.specs.Dollars.{dollar_at}
use Rattle.dict_source.specs.Tree.{literal_dollar}
use Rattle.evaluation.specs.Operations.{many_value, two_value}
use Rattle.evaluation.specs.Sure.{value_of}
use Rattle.answers.specs.Answered.{Answered}
use Rattle.tax_2023.specs.Household.{Household, Status, single, separately, jointly, surviving_spouse, head_of_household}
use Rattle.tax_2023.specs.Years.{Year}
use Rattle.dict_meaning.specs.Dependencies.{constant_value}
use Rattle.tax_2023.specs.Figures.{figures, spelled_dollars}
use Rattle.tax_2023.specs.Tables.{basic_amount, box_amount, boxes, cents, claimed_amount, deduction, greater_of, is_joint, is_old, is_separate, lesser_of, one_if, status, taxable_income}
use Rattle.tax_2023.specs.Facts as facts
use Rattle.tax_2023.specs.Laws.{IsModest, status_place}
use Rattle.tax_2023.proofs.Ages.{is_gt-int_lt, is_lt-int_lt, under_is}
use Rattle.tax_2023.proofs.Spells.{IsSmall, IsWritten, Shares}
use Rattle.tax_2023.proofs.YearDictionary.{Rest, Worth}

-- ---- bounds

-- between two numbers
pub record Between (a n b : ℤ) : Type 0 where
  pub low : a ≤ℤ n
  pub high : n ≤ℤ b

pub in_range_of : (n : ℤ) → Between (negsuc 999999999999998) n (pos 999999999999999) → IsTrue (is_in_range n)
in_range_of (pos n) h = lt-ltb n 1000000000000000 (omega (arith, ints, h.high))
in_range_of (negsuc n) h = lt-ltb (suc n) 1000000000000000 (omega (arith, ints, h.low))

abbrev pub IsBetweenModest : ℤ → Type 0
IsBetweenModest n = Between (negsuc 99999999999999) n (pos 100000000000000)

pub modest : (n : ℤ) → IsModest n → IsBetweenModest n
modest (pos n) h = record { low = omega (arith, ints, h); high = omega (arith, ints, h) }
modest (negsuc n) h = record { low = omega (arith, ints, h); high = omega (arith, ints, h) }

basic_small : (y : Year) → Shares y → IsSmall y → (s : Status) → y.basic s ≤ 100000
basic_small y q h single = h.basic_single
basic_small y q h separately = rw q.basic_separately h.basic_single
basic_small y q h jointly = h.basic_jointly
basic_small y q h surviving_spouse = rw q.basic_surviving h.basic_jointly
basic_small y q h head_of_household = h.basic_head

box_small : (y : Year) → Shares y → IsSmall y → (s : Status) → y.box s ≤ 100000
box_small y q h single = h.box_single
box_small y q h separately = h.box_separately
box_small y q h jointly = rw q.box_jointly h.box_separately
box_small y q h surviving_spouse = rw q.box_surviving h.box_separately
box_small y q h head_of_household = rw q.box_head h.box_single

one_small : (b : Bool) → one_if b ≤ 1
one_small true = omega arith
one_small false = omega arith

boxes_small : (y : Year) (h : Household) → boxes y h ≤ 4
unfolding boxes
boxes_small y h =
    omega (arith, one_small (is_old y h.date_of_birth), one_small h.blind, one_small (is_joint h && is_old y h.spouse_date_of_birth), one_small (is_joint h && h.spouse_blind))

product_small : (a b : ℕ) → a ≤ 100000 → b ≤ 4 → a * 100 * b ≤ 40000000
product_small a b h k = let m = mul-le-mul_left {m = b} {n = 4} (a * 100) k in omega arith

pos_between : (n u : ℕ) → n ≤ u → Between (pos 0) (pos n) (pos u)
pos_between n u h = record { low = omega (arith, ints); high = omega (arith, ints) }

cents_small : (n : ℕ) → n ≤ 100000 → Between (pos 0) (cents n) (pos 10000000)
cents_small n h = pos_between (n * 100) 10000000 (omega arith)

-- all boxes together
abbrev box_total : Year → Household → ℤ
box_total y h = box_amount y h *ℤ pos (boxes y h)

box_total_small : (y : Year) → IsWritten y → (h : Household) → Between (pos 0) (box_total y h) (pos 40000000)
box_total_small y w h =
    pos_between (y.box (status h) * 100 * boxes y h) 40000000 (product_small (y.box (status h)) (boxes y h) (box_small y w.shares w.small (status h)) (boxes_small y h))

basic_amount_small : (y : Year) → IsWritten y → (h : Household) → Between (pos 0) (basic_amount y h) (pos 10000000)
basic_amount_small y w h = cents_small (y.basic (status h)) (basic_small y w.shares w.small (status h))

low_either : (c : Bool) (l a b : ℤ) → l ≤ℤ a → l ≤ℤ b → l ≤ℤ (if c then a else b)
low_either true l a b h k = h
low_either false l a b h k = k

most_high : (c : Bool) (a b : ℤ) → int_lt b a ≡ c → (if c then b else a) ≤ℤ a
most_high true a b e = let l = under_is b a e in omega (arith, ints)
most_high false a b e = omega (arith, ints)

most_between : (a b u : ℤ) → Between (pos 0) a u → pos 0 ≤ℤ b → Between (pos 0) (lesser_of a b) u
most_between a b u h k = record {
  low = low_either (int_lt b a) (pos 0) b a k h.low;
  high = let m = most_high (int_lt b a) a b refl in omega (arith, ints, h.high);
}

least_low : (c : Bool) (a b : ℤ) → int_lt a b ≡ c → a ≤ℤ (if c then b else a)
least_low true a b e = let l = under_is a b e in omega (arith, ints)
least_low false a b e = omega (arith, ints)

claimed_small : (y : Year) → IsWritten y → (h : Household) → Between (pos 0) (claimed_amount y h) (pos 10000000)
claimed_small y w h =
    let x = h.earned_income +ℤ cents y.claimed_above_earned in
    let l = least_low (int_lt (cents y.claimed_at_least) x) (cents y.claimed_at_least) x refl in
    let p = cents_small y.claimed_at_least w.small.claimed_at_least in
    most_between (basic_amount y h) (greater_of (cents y.claimed_at_least) x) (pos 10000000) (basic_amount_small y w h) (omega (arith, ints, p.low))

-- the sums of the deduction are in range
record Sums (y : Year) (h : Household) : Type 0 where
  earned : IsTrue (is_in_range (h.earned_income +ℤ cents y.claimed_above_earned))
  boxed : IsTrue (is_in_range (box_total y h))
  claiming : IsTrue (is_in_range (claimed_amount y h +ℤ box_total y h))
  full : IsTrue (is_in_range (basic_amount y h +ℤ box_total y h))

sums : (y : Year) → IsWritten y → (h : Household) → IsModest h.earned_income → Sums y h
sums y w h e =
    let i = modest h.earned_income e in
    let m = cents_small y.claimed_above_earned w.small.claimed_above in
    let b = box_total_small y w h in
    let c = claimed_small y w h in
    let f = basic_amount_small y w h in
    record {
      earned = in_range_of (h.earned_income +ℤ cents y.claimed_above_earned) (record { low = omega (arith, ints, i.low, m.low); high = omega (arith, ints, i.high, m.high) });
      boxed = in_range_of (box_total y h) (record { low = omega (arith, ints, b.low); high = omega (arith, ints, b.high) });
      claiming = in_range_of (claimed_amount y h +ℤ box_total y h) (record { low = omega (arith, ints, b.low, c.low); high = omega (arith, ints, b.high, c.high) });
      full = in_range_of (basic_amount y h +ℤ box_total y h) (record { low = omega (arith, ints, b.low, f.low); high = omega (arith, ints, b.high, f.high) });
    }

chosen_between : (c : Bool) (a b l u : ℤ) → Between l a u → Between l b u → Between l (if c then a else b) u
chosen_between true a b l u h k = h
chosen_between false a b l u h k = k

pub deduction_small : (y : Year) → IsWritten y → (h : Household) → Between (pos 0) (deduction y h) (pos 50000000)
unfolding deduction
deduction_small y w h =
    let b = box_total_small y w h in
    let k = chosen_between h.can_be_claimed (claimed_amount y h) (basic_amount y h) (pos 0) (pos 10000000) (claimed_small y w h) (basic_amount_small y w h) in
    chosen_between (is_separate (status h) && h.spouse_itemizes) (pos 0) ((if h.can_be_claimed then claimed_amount y h else basic_amount y h) +ℤ box_total y h) (pos 0) (pos 50000000)
    (record { low = omega (arith, ints); high = omega (arith, ints) })
    (record { low = omega (arith, ints, b.low, k.low); high = omega (arith, ints, b.high, k.high) })

-- ---- operations on values that are amounts

plus_none : (a : ℤ) → (a +ℤ pos 0) ≡ a
plus_none a = omega (arith, ints)

pub sum_is : (v w : Value) (a b : ℤ) → v ≡ Dollar a → w ≡ Dollar b → IsTrue (is_in_range (a +ℤ b)) → many_value Add (v ∷ w ∷ []) ≡ Ok (Dollar (a +ℤ b))
sum_is v w a b p q r = rw (p, q, plus_none b, r) refl

pub difference_is : (v w : Value) (a b : ℤ) → v ≡ Dollar a → w ≡ Dollar b → IsTrue (is_in_range (a -ℤ b)) → many_value Subtract (v ∷ w ∷ []) ≡ Ok (Dollar (a -ℤ b))
difference_is v w a b p q r = rw (p, q, plus_none b, r) refl

pub product_is : (v w : Value) (a b : ℤ) → v ≡ Dollar a → w ≡ Int b → IsTrue (is_in_range (a *ℤ b)) → two_value Multiply v w ≡ Ok (Dollar (a *ℤ b))
product_is v w a b p q r = rw (p, q, r) refl

one_dollar : (c : Bool) (a b : ℤ) → (if c then Dollar a else Dollar b) ≡ Dollar (if c then a else b)
one_dollar true a b = refl
one_dollar false a b = refl

pub greater_is : (v w : Value) (a b : ℤ) → v ≡ Dollar a → w ≡ Dollar b → value_of (many_value GreaterOf (v ∷ w ∷ [])) ≡ Dollar (greater_of a b)
greater_is v w a b p q = rw (p, q, is_lt-int_lt a b) (one_dollar (int_lt a b) b a)

pub lesser_is : (v w : Value) (a b : ℤ) → v ≡ Dollar a → w ≡ Dollar b → value_of (many_value LesserOf (v ∷ w ∷ [])) ≡ Dollar (lesser_of a b)
lesser_is v w a b p q = rw (p, q, is_gt-int_lt a b) (one_dollar (int_lt b a) b a)

-- ---- the facts

pub total_stated : (y : Year) (t : Rest) (a : Answered) (h : Household) → IsModest h.earned_income → IsModest h.other_income → Worth y t a h 24 0 (Dollar (h.earned_income +ℤ h.other_income)) facts.total_income
total_stated y t a h e o =
    let i = modest h.earned_income e in
    let j = modest h.other_income o in
    let r = in_range_of (h.earned_income +ℤ h.other_income) (record { low = omega (arith, ints, i.low, j.low); high = omega (arith, ints, i.high, j.high) }) in
    let sum = sum_is (Dollar h.earned_income) (Dollar h.other_income) h.earned_income h.other_income refl refl r in
    λ results. (ap is_ok sum, ap value_of sum)

is_separate-place : (s : Status) → (status_place s == 1) ≡ is_separate s
is_separate-place single = refl
is_separate-place separately = refl
is_separate-place jointly = refl
is_separate-place surviving_spouse = refl
is_separate-place head_of_household = refl

three : (a c : Bool) (x y z : ℤ) → (if a then Dollar (pos 0) else if c then Dollar (x +ℤ z) else Dollar (y +ℤ z)) ≡ Dollar (if a then pos 0 else (if c then x else y) +ℤ z)
three true c x y z = refl
three false true x y z = refl
three false false x y z = refl

case_is : (a c : Bool) (v w : Value) (x y z : ℤ) → v ≡ Dollar (x +ℤ z) → w ≡ Dollar (y +ℤ z) → (if a then Dollar (pos 0) else if c then v else w) ≡ Dollar (if a then pos 0 else (if c then x else y) +ℤ z)
case_is a c v w x y z p q = rw (p, q) (three a c x y z)

-- the constant that a figure of the year is
abbrev amount_of : List ℕ → Value
amount_of text = constant_value facts.filing_statuses (literal_dollar text)

amount_is : (text : List ℕ) (n : ℤ) → dollar_at text ≡ Some n → amount_of text ≡ Dollar n
amount_is text n e = ap (λ o. unwrap_or (option_map (λ k. Dollar k) o) (Boolean false)) e

-- the test of the expression, where its four sums are in range
deduction_sure : (a m c f claimed separate : Bool) → a ≡ true → m ≡ true → c ≡ true → f ≡ true
    → ((((((((a && true) && true) && true) && true) && (m && true)) && c) && ((((m && true) && f) && true) || claimed)) || separate) ≡ true
deduction_sure a m c f claimed separate p q r s = rw (p, q, r, s) refl

pub deduction_stated : (y : Year) (t : Rest) (a : Answered) (h : Household) → IsWritten y → IsModest h.earned_income → Worth y t a h 23 0 (Dollar (deduction y h)) (facts.standard_deduction (figures y))
unfolding deduction
deduction_stated y t a h w e =
    let r = sums y w h e in
    let more = cents y.claimed_above_earned in
    let more_text = amount_of (spelled_dollars y.claimed_above_earned) in
    let x = h.earned_income +ℤ more in
    let b = basic_amount y h in
    let z = box_total y h in
    let sum = sum_is (Dollar h.earned_income) more_text h.earned_income more refl (amount_is (spelled_dollars y.claimed_above_earned) more w.spells.claimed_above) r.earned in
    let earned = value_of (many_value Add (Dollar h.earned_income ∷ more_text ∷ [])) in
    let least = cents y.claimed_at_least in
    let least_text = amount_of (spelled_dollars y.claimed_at_least) in
    let greater = greater_is least_text earned least x (amount_is (spelled_dollars y.claimed_at_least) least w.spells.claimed_at_least) (ap value_of sum) in
    let most = value_of (many_value GreaterOf (least_text ∷ earned ∷ [])) in
    let lesser = lesser_is (Dollar b) most b (greater_of least x) refl greater in
    let times = product_is (Dollar (box_amount y h)) (Int (pos (boxes y h))) (box_amount y h) (pos (boxes y h)) refl refl r.boxed in
    let boxed = value_of (two_value Multiply (Dollar (box_amount y h)) (Int (pos (boxes y h)))) in
    let base = value_of (many_value LesserOf (Dollar b ∷ most ∷ [])) in
    let claiming = sum_is base boxed (claimed_amount y h) z lesser (ap value_of times) r.claiming in
    let full = sum_is (Dollar b) boxed b z refl (ap value_of times) r.full in
    let separate = (status_place (status h) == 1) && h.spouse_itemizes in
    λ results. (
      deduction_sure (is_ok (many_value Add (Dollar h.earned_income ∷ more_text ∷ []))) (is_ok (two_value Multiply (Dollar (box_amount y h)) (Int (pos (boxes y h)))))
          (is_ok (many_value Add (base ∷ boxed ∷ []))) (is_ok (many_value Add (Dollar b ∷ boxed ∷ []))) h.can_be_claimed separate (ap is_ok sum) (ap is_ok times) (ap is_ok claiming) (ap is_ok full),
      case_is separate h.can_be_claimed (value_of (many_value Add (base ∷ boxed ∷ []))) (value_of (many_value Add (Dollar b ∷ boxed ∷ []))) (claimed_amount y h) b z (ap value_of claiming) (ap value_of full)
          ∙ ap (λ s. Dollar (if s && h.spouse_itemizes then pos 0 else (if h.can_be_claimed then claimed_amount y h else b) +ℤ z)) (is_separate-place (status h)),
    )

pub taxable_stated : (y : Year) (t : Rest) (a : Answered) (h : Household) → IsWritten y → IsModest h.earned_income → IsModest h.other_income → Worth y t a h 25 0 (Dollar (taxable_income y h)) facts.taxable_income
unfolding taxable_income
taxable_stated y t a h w e o =
    let i = modest h.earned_income e in
    let j = modest h.other_income o in
    let d = deduction_small y w h in
    let income = h.earned_income +ℤ h.other_income in
    let r = in_range_of (income -ℤ deduction y h) (record { low = omega (arith, ints, i.low, j.low, d.high); high = omega (arith, ints, i.high, j.high, d.low) }) in
    let rest = difference_is (Dollar income) (Dollar (deduction y h)) income (deduction y h) refl refl r in
    let left = value_of (many_value Subtract (Dollar income ∷ Dollar (deduction y h) ∷ [])) in
    λ results. (rw (ap is_ok rest) refl, greater_is (Dollar (pos 0)) left (pos 0) (income -ℤ deduction y h) refl (ap value_of rest))
