-- The facts of the credit: for whom there is one, how much, and what is left of the tax.
use Rattle.std.proofs.Common.{◌-◌, ◌≡◌, ℕ, suc, ◌+◌, ◌*◌, ◌≤◌, ◌&&◌, Bool, true, false, if◌then◌else◌, IsTrue, int_lt, ℤ, pos, negsuc, ◌+ℤ◌, ◌-ℤ◌, ◌*ℤ◌, ◌≤ℤ◌, List, [], ◌∷◌, length, filter, Ok, is_ok, refl, sym, ap, ◌∙◌, subst, arith}
use Rattle.std.specs.Prelude.{◌==◌}
use Rattle.std.proofs.lemmas.Int.{ints}
use Rattle.std.proofs.Math.Nat.{mul-le-mul}
use Rattle.std.specs.Ordering.{int_cmp, is_gt}
use Rattle.fact_values.specs.Days.{year_of}
use Rattle.fact_values.specs.Range.{is_in_range}
use Rattle.fact_values.specs.Rounding.{rounded_size}
use Rattle.fact_values.specs.declared.value.Value.{Value}
use Rattle.fact_values.specs.declared.value.Value.TheVariants.{Boolean, Dollar, Int}
use Rattle.dict_source.specs.declared.operators.ManyOp.TheVariants.{Add, GreaterOf, Subtract}
use Rattle.dict_source.specs.declared.operators.OneOp.TheVariants.{Round}
use Rattle.dict_source.specs.declared.operators.TwoOp.TheVariants.{Divide, Multiply}
use Rattle.dict_types.specs.TypedParts.{TypedDictionary}
use Rattle.evaluation.specs.Operations.{many_value, one_value, two_value}
use Rattle.evaluation.specs.Sure.{value_of}
use Rattle.answers.specs.Answered.{Answered}
use Rattle.dict_meaning.specs.Slots.{is_member}
use Rattle.tax_2023.specs.Household.{Cents, Dependent, Household, Status, single, separately, jointly, surviving_spouse, head_of_household}
use Rattle.tax_2023.specs.Tables.{cents, greater_of, lesser_of, members, status}
use Rattle.tax_2023.specs.Laws.{IsModest, status_place}
use Rattle.tax_2023.proofs.Ages.{first_of, is_gt-int_lt, young}
use Rattle.tax_2023.proofs.Money.{Between, difference_is, greater_is, in_range_of, lesser_is, modest, product_is, sum_is}
use Rattle.tax_2023.proofs.Persons.{AreGiven, IsOpen, all_members, counted}
use Rattle.tax_2023.proofs.Values.{person}
use Rattle.tax_income.specs.Facts as facts
use Rattle.tax_income.specs.Figures.{income_figures}
use Rattle.tax_income.specs.Years.{IncomeYear}
use Rattle.tax_income.proofs.IncomeSpells.{IsWrittenIncome}
use Rattle.tax_income.specs.Tables.{Numbered, child_credit, credit_base, credit_children, excess, income_limit, is_credit_child, is_other_dependent, other_dependents, reduction, schedule_tax, tax_after_credits, thousands}
use Rattle.tax_income.proofs.Bands.{IsTax, IsUpTo, greater_up_to, not_below, tax_small, up_to, up_to_range}
use Rattle.tax_income.proofs.IncomeValues.{Worth}
use Rattle.tax_income.proofs.Rounding.{by_division, rounded_up, thousands_are}

-- ---- persons

-- who was born after the last day of a year is under 17 at the end of the seventeenth one behind it
born_later : (y : IncomeYear) → IsWrittenIncome y → (born : ℤ) → is_gt (int_cmp born (first_of (y.tables.year - 16) -ℤ pos 1)) ≡ int_lt (pos y.tables.year -ℤ year_of born) (pos 17)
born_later y w born =
    let small = w.tables.small in
    is_gt-int_lt born (first_of (y.tables.year - 16) -ℤ pos 1) ∙ young born y.tables.year 16 (omega (arith, small.from)) (omega (arith, small.from)) (omega (arith, small.until))

module _ (y : IncomeYear) (w : IsWrittenIncome y) (t : TypedDictionary) (a : Answered) (h : Household) (numbered : Numbered) where
  pub credit_child_stated : (m : ℕ) → IsTrue (is_member a 26 m) → Worth y t a h numbered 61 m (Boolean (is_credit_child y h numbered (person a m))) (facts.credit_child (income_figures y))
  unfolding is_credit_child
  credit_child_stated m st = λ results.
      let p = person a m in
      (rw st refl, rw (w.under_17_after, born_later y w p.date_of_birth) refl)

  pub other_dependent_stated : (m : ℕ) → IsTrue (is_member a 26 m) → Worth y t a h numbered 62 m (Boolean (is_other_dependent y h numbered (person a m))) facts.other_dependent
  unfolding is_other_dependent
  other_dependent_stated m st = λ results. (rw st refl, refl)

  pub credit_children_stated : IsOpen a h → AreGiven a h.persons → Worth y t a h numbered 63 0 (Int (pos (credit_children y h numbered))) facts.credit_child_count
  credit_children_stated opened given = λ results. (rw (opened, all_members (members h.persons)) refl, ap (λ n. Int (pos n)) (counted a (is_credit_child y h numbered) h.persons given))

  pub other_dependents_stated : IsOpen a h → AreGiven a h.persons → Worth y t a h numbered 64 0 (Int (pos (other_dependents y h numbered))) facts.other_dependent_count
  other_dependents_stated opened given = λ results. (rw (opened, all_members (members h.persons)) refl, ap (λ n. Int (pos n)) (counted a (is_other_dependent y h numbered) h.persons given))

-- ---- the credit before limits

one_fewer : (b : Bool) (p : Dependent) (r : List Dependent) (n : ℕ) → length r ≤ n → length (if b then p ∷ r else r) ≤ suc n
one_fewer true p r n le = omega (arith, le)
one_fewer false p r n le = omega (arith, le)

fewer : (test : Dependent → Bool) (ps : List Dependent) → length (filter test ps) ≤ length ps
fewer test [] = omega arith
fewer test (p ∷ ps) = one_fewer (test p) p (filter test ps) (length ps) (fewer test ps)

-- so many persons that no amount overflows
abbrev pub AreFew : Household → Type 0
AreFew h = length h.persons ≤ 100

counted_few : (h : Household) → AreFew h → (test : Dependent → Bool) → length (filter test h.persons) ≤ 100
counted_few h few test = omega (arith, few, fewer test h.persons)

base_sure : (m n s : Bool) → m ≡ true → n ≡ true → s ≡ true → ((m && (n && true)) && s) ≡ true
base_sure m n s p q r = rw (p, q, r) refl

base_is : (c o : ℕ) → pos 200000 *ℤ pos c +ℤ pos 50000 *ℤ pos o ≡ cents (2000 * c + 500 * o)
base_is c o = omega (arith, ints)

small_base : (c o : ℕ) → c ≤ 100 → o ≤ 100 → IsUpTo (cents (2000 * c + 500 * o)) 25000000
small_base c o h k = record { size = (2000 * c + 500 * o) * 100; same = refl; small = omega (arith, h, k) }

pub base_small : (y : IncomeYear) (h : Household) (numbered : Numbered) → AreFew h → IsUpTo (credit_base y h numbered) 25000000
base_small y h numbered few = small_base (credit_children y h numbered) (other_dependents y h numbered) (counted_few h few (is_credit_child y h numbered)) (counted_few h few (is_other_dependent y h numbered))

each_in_range : (n c : ℕ) → n ≤ 200000 → c ≤ 100 → IsTrue (is_in_range (pos n *ℤ pos c))
each_in_range n c h k =
    let m = mul-le-mul h k in
    in_range_of (pos (n * c)) (record { low = omega (arith, ints); high = omega (arith, ints, m) })

-- ---- the excess and the reduction

limit_is : (s : Status) → (if status_place s == 2 then Dollar (pos 40000000) else Dollar (pos 20000000)) ≡ Dollar (cents (income_limit s))
limit_is single = refl
limit_is separately = refl
limit_is jointly = refl
limit_is surviving_spouse = refl
limit_is head_of_household = refl

few_limit : (s : Status) → income_limit s ≤ 400000
few_limit single = omega arith
few_limit separately = omega arith
few_limit jointly = omega arith
few_limit surviving_spouse = omega arith
few_limit head_of_household = omega arith

two_sure : (s : Bool) → s ≡ true → ((s && true) && true) ≡ true
two_sure s p = rw p refl

four_sure : (s : Bool) → s ≡ true → ((((s && true) && true) && true) && true) ≡ true
four_sure s p = rw p refl

steps_sure : (s d r p : Bool) → s ≡ true → d ≡ true → r ≡ true → p ≡ true → (((s && d) && r) && p) ≡ true
steps_sure s d r p e f g i = rw (e, f, g, i) refl

-- total income over the limit is modest too
over_limit : (h : Household) → IsModest h.earned_income → IsModest h.other_income → Between (negsuc 200000039999999) ((h.earned_income +ℤ h.other_income) -ℤ cents (income_limit (status h))) (pos 200000000000000)
over_limit h e o =
    let i = modest h.earned_income e in
    let j = modest h.other_income o in
    let l = few_limit (status h) in
    record { low = omega (arith, ints, i.low, j.low, l); high = omega (arith, ints, i.high, j.high) }

pub excess_small : (h : Household) → IsModest h.earned_income → IsModest h.other_income → IsUpTo (excess h) 200000000000000
unfolding excess
excess_small h e o = greater_up_to ((h.earned_income +ℤ h.other_income) -ℤ cents (income_limit (status h))) 200000000000000 (over_limit h e o).high

divided_is : (v : Value) (n : ℕ) → v ≡ Dollar (pos n) → n ≤ 300000000000000 → two_value Divide v (Int (pos 1000)) ≡ Ok (Dollar (pos (rounded_size n 1000)))
divided_is v n e h =
    let range = in_range_of (pos (rounded_size n 1000)) (record { low = omega (arith, ints); high = omega (arith, ints, h) }) in
    rw (e, range) refl

rounded_is : (v : Value) (c : ℕ) → v ≡ Dollar (pos c) → c ≤ 300000000001 → one_value Round v ≡ Ok (Dollar (pos (rounded_size c 100 * 100)))
rounded_is v c e h =
    let range = in_range_of (pos (rounded_size c 100 * 100)) (record { low = omega (arith, ints); high = omega (arith, ints, h) }) in
    rw (e, range) refl

fifty_each : (q : ℕ) → pos (q * 100) *ℤ pos 50 ≡ cents (50 * q)
fifty_each q = omega (arith, ints)

reduction_is : (x : Cents) → (n : ℕ) → x ≡ pos n → cents (50 * thousands x) ≡ cents (50 * by_division n)
reduction_is x n e = ap (λ k. cents (50 * k)) (ap thousands e ∙ thousands_are n)

small_reduction : (n : ℕ) → n ≤ 200000000000000 → IsUpTo (cents (50 * by_division n)) 10000000000000
small_reduction n h = record { size = 50 * by_division n * 100; same = refl; small = omega (arith, h) }

pub reduction_small : (h : Household) → IsModest h.earned_income → IsModest h.other_income → IsUpTo (reduction h) 10000000000000
reduction_small h e o =
    let u = excess_small h e o in
    let s = small_reduction u.size u.small in
    record { size = s.size; same = reduction_is (excess h) u.size u.same ∙ s.same; small = s.small }

-- ---- the credit

base_less : (y : IncomeYear) (h : Household) (numbered : Numbered) → AreFew h → IsModest h.earned_income → IsModest h.other_income → Between (negsuc 9999999999999) (credit_base y h numbered -ℤ reduction h) (pos 25000000)
base_less y h numbered few e o =
    let b = base_small y h numbered few in
    let r = reduction_small h e o in
    record { low = rw (b.same, r.same) (omega (arith, ints, r.small)); high = rw (b.same, r.same) (omega (arith, ints, b.small)) }

lesser_up_to : (x y : Cents) (most : ℕ) → IsUpTo x most → pos 0 ≤ℤ y → IsUpTo (lesser_of x y) most
lesser_up_to x y most u low = rw u.same (up_to (lesser_of (pos u.size) y) most (above u.size y low) (below u.size y u.small))
  where
    above : (n : ℕ) (y : Cents) → pos 0 ≤ℤ y → pos 0 ≤ℤ lesser_of (pos n) y
    above n y h = grind (arith, ints)

    below : (n : ℕ) (y : Cents) → n ≤ most → lesser_of (pos n) y ≤ℤ pos most
    below n y h = grind (arith, ints)

pub credit_small : (y : IncomeYear) → IsWrittenIncome y → (h : Household) (numbered : Numbered) → IsModest h.earned_income → IsModest h.other_income → IsTax (child_credit y h numbered)
unfolding child_credit
credit_small y w h numbered e o = lesser_up_to (schedule_tax y h) (greater_of (pos 0) (credit_base y h numbered -ℤ reduction h)) 518000000000000 (tax_small y w h e o) (not_below (credit_base y h numbered -ℤ reduction h))

-- ---- the facts

module _ (y : IncomeYear) (w : IsWrittenIncome y) (t : TypedDictionary) (a : Answered) (h : Household) (numbered : Numbered) (few : AreFew h) (e : IsModest h.earned_income) (o : IsModest h.other_income) where
  pub credit_base_stated : Worth y t a h numbered 65 0 (Dollar (credit_base y h numbered)) facts.credit_base
  credit_base_stated =
      let c = credit_children y h numbered in
      let d = other_dependents y h numbered in
      let each = product_is (Dollar (pos 200000)) (Int (pos c)) (pos 200000) (pos c) refl refl (each_in_range 200000 c (omega arith) (counted_few h few (is_credit_child y h numbered))) in
      let other = product_is (Dollar (pos 50000)) (Int (pos d)) (pos 50000) (pos d) refl refl (each_in_range 50000 d (omega arith) (counted_few h few (is_other_dependent y h numbered))) in
      let v = value_of (two_value Multiply (Dollar (pos 200000)) (Int (pos c))) in
      let w = value_of (two_value Multiply (Dollar (pos 50000)) (Int (pos d))) in
      let range : IsTrue (is_in_range (pos 200000 *ℤ pos c +ℤ pos 50000 *ℤ pos d)) = subst (λ n. IsTrue (is_in_range n)) (sym (base_is c d)) (up_to_range (credit_base y h numbered) 25000000 (base_small y h numbered few) (omega arith)) in
      let sum = sum_is v w (pos 200000 *ℤ pos c) (pos 50000 *ℤ pos d) (ap value_of each) (ap value_of other) range in
      λ results. (
        base_sure (is_ok (two_value Multiply (Dollar (pos 200000)) (Int (pos c)))) (is_ok (two_value Multiply (Dollar (pos 50000)) (Int (pos d)))) (is_ok (many_value Add (v ∷ w ∷ []))) (ap is_ok each) (ap is_ok other) (ap is_ok sum),
        ap value_of sum ∙ ap (λ n. Dollar n) (base_is c d),
      )

  pub excess_stated : Worth y t a h numbered 66 0 (Dollar (excess h)) facts.excess
  unfolding excess
  excess_stated =
      let income = h.earned_income +ℤ h.other_income in
      let limit = cents (income_limit (status h)) in
      let limited = if status_place (status h) == 2 then Dollar (pos 40000000) else Dollar (pos 20000000) in
      let b = over_limit h e o in
      let range = in_range_of (income -ℤ limit) (record { low = omega (arith, ints, b.low); high = omega (arith, ints, b.high) }) in
      let rest = difference_is (Dollar income) limited income limit refl (limit_is (status h)) range in
      let left = value_of (many_value Subtract (Dollar income ∷ limited ∷ [])) in
      λ results. (two_sure (is_ok (many_value Subtract (Dollar income ∷ limited ∷ []))) (ap is_ok rest), greater_is (Dollar (pos 0)) left (pos 0) (income -ℤ limit) refl (ap value_of rest))

  pub reduction_stated : Worth y t a h numbered 67 0 (Dollar (reduction h)) facts.reduction
  reduction_stated =
      let u = excess_small h e o in
      let n = u.size in
      let more = excess h +ℤ pos 49499 in
      let is_more : more ≡ pos (n + 49499) = ap (λ x. x +ℤ pos 49499) u.same in
      let range : IsTrue (is_in_range more) = rw is_more (in_range_of (pos (n + 49499)) (record { low = omega (arith, ints); high = omega (arith, ints, u.small) })) in
      let sum = sum_is (Dollar (excess h)) (Dollar (pos 49499)) (excess h) (pos 49499) refl refl range in
      let v = value_of (many_value Add (Dollar (excess h) ∷ Dollar (pos 49499) ∷ [])) in
      let c = rounded_size (n + 49499) 1000 in
      let divided = divided_is v (n + 49499) (ap value_of sum ∙ ap (λ x. Dollar x) is_more) (omega (arith, u.small)) in
      let w = value_of (two_value Divide v (Int (pos 1000))) in
      let whole = rounded_is w c (ap value_of divided) (omega (arith, u.small)) in
      let x = value_of (one_value Round w) in
      let q = rounded_size c 100 in
      let times_range : IsTrue (is_in_range (pos (q * 100) *ℤ pos 50)) = in_range_of (pos (q * 100 * 50)) (record { low = omega (arith, ints); high = omega (arith, ints, u.small) }) in
      let product = product_is x (Int (pos 50)) (pos (q * 100)) (pos 50) (ap value_of whole) refl times_range in
      let is : cents (50 * q) ≡ reduction h = ap (λ k. cents (50 * k)) (rounded_up n) ∙ sym (reduction_is (excess h) n u.same) in
      λ results. (
        steps_sure (is_ok (many_value Add (Dollar (excess h) ∷ Dollar (pos 49499) ∷ []))) (is_ok (two_value Divide v (Int (pos 1000)))) (is_ok (one_value Round w)) (is_ok (two_value Multiply x (Int (pos 50)))) (ap is_ok sum) (ap is_ok divided) (ap is_ok whole) (ap is_ok product),
        ap value_of product ∙ ap (λ k. Dollar k) (fifty_each q ∙ is),
      )

  pub child_credit_stated : Worth y t a h numbered 68 0 (Dollar (child_credit y h numbered)) facts.child_credit
  unfolding child_credit
  child_credit_stated =
      let base = credit_base y h numbered in
      let less = reduction h in
      let b = base_less y h numbered few e o in
      let range = in_range_of (base -ℤ less) (record { low = omega (arith, ints, b.low); high = omega (arith, ints, b.high) }) in
      let rest = difference_is (Dollar base) (Dollar less) base less refl refl range in
      let left = value_of (many_value Subtract (Dollar base ∷ Dollar less ∷ [])) in
      let greater = value_of (many_value GreaterOf (Dollar (pos 0) ∷ left ∷ [])) in
      let most = greater_is (Dollar (pos 0)) left (pos 0) (base -ℤ less) refl (ap value_of rest) in
      λ results. (
        four_sure (is_ok (many_value Subtract (Dollar base ∷ Dollar less ∷ []))) (ap is_ok rest),
        lesser_is (Dollar (schedule_tax y h)) greater (schedule_tax y h) (greater_of (pos 0) (base -ℤ less)) refl most,
      )

  pub after_credits_stated : Worth y t a h numbered 69 0 (Dollar (tax_after_credits y h numbered)) facts.tax_after_credits
  after_credits_stated =
      let s = tax_small y w h e o in
      let c = credit_small y w h numbered e o in
      let range = in_range_of (tax_after_credits y h numbered) (record { low = rw (s.same, c.same) (omega (arith, ints, c.small)); high = rw (s.same, c.same) (omega (arith, ints, s.small)) }) in
      let rest = difference_is (Dollar (schedule_tax y h)) (Dollar (child_credit y h numbered)) (schedule_tax y h) (child_credit y h numbered) refl refl range in
      λ results. (ap is_ok rest, ap value_of rest)
