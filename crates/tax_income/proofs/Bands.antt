-- The facts of the schedule: what the ends are, the tax of each band, and of all.
use Rattle.std.proofs.Common.{◌≡◌, ℕ, zero, suc, ◌*◌, ◌<◌, ◌≤◌, ◌-◌, ◌&&◌, ◌||◌, Bool, true, if◌then◌else◌, IsTrue, nat_le, ℤ, pos, negsuc, ◌+ℤ◌, ◌-ℤ◌, ◌≤ℤ◌, List, [], ◌∷◌, length, Some, None, Ok, is_ok, codes, refl, sym, ap, ◌∙◌, arith}
use Rattle.std.specs.Prelude.{◌==◌, slice_get, unwrap_or}
use Rattle.std.specs.List.{list_all}
use Rattle.std.proofs.lemmas.Int.{ints}
use Rattle.std.proofs.lemmas.Bool.Decides.{nat_tests}
use Rattle.common_lemmas.proofs.Bools.{both}
use Rattle.fact_values.specs.Range.{is_in_range}
use Rattle.fact_values.specs.Rationals.{gcd}
use Rattle.fact_values.specs.Rounding.{rounded_size}
use Rattle.fact_values.specs.Totals.{checked}
use Rattle.fact_values.specs.declared.value.Value.{Value}
use Rattle.fact_values.specs.declared.value.Value.TheVariants.{Dollar, Rational}
use Rattle.dict_source.specs.declared.operators.ManyOp.TheVariants.{GreaterOf, LesserOf, Subtract}
use Rattle.dict_source.specs.declared.operators.TwoOp.TheVariants.{Multiply}
use Rattle.dict_source.specs.Tree.{literal_rational}
use Rattle.dict_types.specs.TypedParts.{TypedDictionary}
use Rattle.evaluation.specs.Operations.{many_value, two_value, value_as}
use Rattle.evaluation.specs.Sure.{value_of}
use Rattle.answers.specs.Answered.{Answered}
use Rattle.dict_meaning.specs.Dependencies.{constant_value}
use Rattle.tax_2023.specs.Household.{Cents, Household, Status, single, separately, jointly, surviving_spouse, head_of_household}
use Rattle.tax_2023.specs.Tables.{cents, deduction, greater_of, lesser_of, status, taxable_income}
use Rattle.tax_2023.specs.Facts as facts_of_year
use Rattle.tax_2023.specs.Laws.{IsModest, status_place}
use Rattle.tax_2023.proofs.Money.{deduction_small, difference_is, greater_is, in_range_of, lesser_is, modest}
use Rattle.tax_income.specs.Bands.{bands, bands_from, ends, rates}
use Rattle.tax_income.specs.Facts as facts
use Rattle.tax_income.specs.Figures.{income_figures}
use Rattle.tax_income.specs.Tables.{Numbered, part_above, part_between, schedule, schedule_tax}
use Rattle.tax_income.specs.Years.{IncomeYear}
use Rattle.tax_income.proofs.IncomeSpells.{IsWrittenIncome}
use Rattle.tax_income.proofs.IncomeValues.{Worth, end_at, tax_between}
use Rattle.tax_income.proofs.Rounding.{in_each, nat_part, part_is, same_fraction, same_tax, small_part, small_tax, taxed, taxes, taxes_are}

-- ---- the ends

end_by : (e : Status → ℕ) → e surviving_spouse ≡ e jointly → (s : Status)
    → (if status_place s == 2 || status_place s == 3 then Dollar (cents (e jointly))
    else if status_place s == 4 then Dollar (cents (e head_of_household))
    else if status_place s == 1 then Dollar (cents (e separately))
    else Dollar (cents (e single)))
    ≡ Dollar (cents (e s))
end_by e same single = refl
end_by e same separately = refl
end_by e same jointly = refl
end_by e same surviving_spouse = rw same refl
end_by e same head_of_household = refl

module _ (y : IncomeYear) (w : IsWrittenIncome y) (t : TypedDictionary) (a : Answered) (h : Household) (numbered : Numbered) where
  pub end10_stated : Worth y t a h numbered 46 0 (Dollar (cents (end_at y 0 (status h)))) (facts.by_status (income_figures y) (codes "10 percent, couple") (codes "10 percent, head of household") (codes "10 percent, separately") (codes "10 percent, single"))
  end10_stated = λ results. (refl, rw (w.end_10.couple, w.end_10.head, w.end_10.separate, w.end_10.other) (end_by y.end_10 w.end_10.shared (status h)))

  pub end12_stated : Worth y t a h numbered 47 0 (Dollar (cents (end_at y 1 (status h)))) (facts.by_status (income_figures y) (codes "12 percent, couple") (codes "12 percent, head of household") (codes "12 percent, separately") (codes "12 percent, single"))
  end12_stated = λ results. (refl, rw (w.end_12.couple, w.end_12.head, w.end_12.separate, w.end_12.other) (end_by y.end_12 w.end_12.shared (status h)))

  pub end22_stated : Worth y t a h numbered 48 0 (Dollar (cents (end_at y 2 (status h)))) (facts.by_status (income_figures y) (codes "22 percent, couple") (codes "22 percent, head of household") (codes "22 percent, separately") (codes "22 percent, single"))
  end22_stated = λ results. (refl, rw (w.end_22.couple, w.end_22.head, w.end_22.separate, w.end_22.other) (end_by y.end_22 w.end_22.shared (status h)))

  pub end24_stated : Worth y t a h numbered 49 0 (Dollar (cents (end_at y 3 (status h)))) (facts.by_status (income_figures y) (codes "24 percent, couple") (codes "24 percent, head of household") (codes "24 percent, separately") (codes "24 percent, single"))
  end24_stated = λ results. (refl, rw (w.end_24.couple, w.end_24.head, w.end_24.separate, w.end_24.other) (end_by y.end_24 w.end_24.shared (status h)))

  pub end32_stated : Worth y t a h numbered 50 0 (Dollar (cents (end_at y 4 (status h)))) (facts.by_status (income_figures y) (codes "32 percent, couple") (codes "32 percent, head of household") (codes "32 percent, separately") (codes "32 percent, single"))
  end32_stated = λ results. (refl, rw (w.end_32.couple, w.end_32.head, w.end_32.separate, w.end_32.other) (end_by y.end_32 w.end_32.shared (status h)))

  pub end35_stated : Worth y t a h numbered 51 0 (Dollar (cents (end_at y 5 (status h)))) (facts.by_status (income_figures y) (codes "35 percent, couple") (codes "35 percent, head of household") (codes "35 percent, separately") (codes "35 percent, single"))
  end35_stated = λ results. (refl, rw (w.end_35.couple, w.end_35.head, w.end_35.separate, w.end_35.other) (end_by y.end_35 w.end_35.shared (status h)))

-- ---- taxable income

-- not negative, and at most so much
pub record IsUpTo (x : ℤ) (most : ℕ) : Type 0 where
  pub size : ℕ
  pub same : x ≡ pos size
  pub small : size ≤ most

pub up_to : (x : ℤ) (most : ℕ) → pos 0 ≤ℤ x → x ≤ℤ pos most → IsUpTo x most
up_to (pos n) most low high = record { size = n; same = refl; small = omega (arith, ints, high) }
up_to (negsuc n) most low high = absurd (omega (arith, ints, low))

pub up_to_range : (x : ℤ) (most : ℕ) → IsUpTo x most → most ≤ 999999999999999 → IsTrue (is_in_range x)
up_to_range x most u h = rw u.same (in_range_of (pos u.size) (record { low = omega (arith, ints); high = omega (arith, ints, u.small, h) }))

pub not_below : (n : ℤ) → pos 0 ≤ℤ greater_of (pos 0) n
not_below n = grind (arith, ints)

not_above : (n : ℤ) (most : ℕ) → n ≤ℤ pos most → greater_of (pos 0) n ≤ℤ pos most
not_above n most h = grind (arith, ints)

pub greater_up_to : (n : ℤ) (most : ℕ) → n ≤ℤ pos most → IsUpTo (greater_of (pos 0) n) most
greater_up_to n most h = up_to (greater_of (pos 0) n) most (not_below n) (not_above n most h)

-- an amount that is small enough for all sums
abbrev pub IsTaxable : Cents → Type 0
IsTaxable t = IsUpTo t 200000000000000

pub is_taxable : (y : IncomeYear) → IsWrittenIncome y → (h : Household) → IsModest h.earned_income → IsModest h.other_income → IsTaxable (taxable_income y.tables h)
unfolding taxable_income
is_taxable y w h e o =
    let i = modest h.earned_income e in
    let j = modest h.other_income o in
    let d = deduction_small y.tables w.tables h in
    greater_up_to ((h.earned_income +ℤ h.other_income) -ℤ deduction y.tables h) 200000000000000 (omega (arith, ints, i.high, j.high, d.low))

-- ---- a part at a rate

-- a rate in other terms
rated : (p num den k r : ℕ) → 0 < k → k * num ≡ r → k * den ≡ 100 → rounded_size (p * num) den ≡ rounded_size (p * r) 100
rated p num den k r some up down =
    let e : k * (p * num) ≡ p * (k * num) = omega arith in
    sym (same_fraction k (p * num) den some) ∙ (ap (λ n. rounded_size n (k * den)) (e ∙ ap (λ n. p * n) up) ∙ ap (rounded_size (p * r)) down)

-- the fraction, and so many times its terms are percent
pub record IsRate (w : Value) (r : ℕ) : Type 0 where
  pub num : ℕ
  pub den : ℕ
  pub times : ℕ
  pub value : w ≡ Rational (record { num = pos num; den = den })
  pub some : 0 < times
  pub up : times * num ≡ r
  pub down : times * den ≡ 100
  pub small : r ≤ 37

times_is : (v w : Value) (x : Cents) (r : ℕ) → v ≡ Dollar x → IsTaxable x → IsRate w r → two_value Multiply v w ≡ Ok (Dollar (taxed x r))
times_is v w x r e u q =
    let small = small_tax u.size r u.small q.small in
    let range = in_range_of (pos (rounded_size (u.size * r) 100)) (record { low = omega (arith, ints); high = omega (arith, ints, small) }) in
    rw (e, u.same, q.value, rated u.size q.num q.den q.times r q.some q.up q.down, range) refl

abbrev over_value : Value → ℕ → Value
over_value v low = value_of (many_value Subtract (v ∷ Dollar (cents low) ∷ []))

abbrev part_value : Value → ℕ → Value
part_value v low = value_of (many_value GreaterOf (Dollar (pos 0) ∷ over_value v low ∷ []))

-- the product of a part and a rate has a value, and that is this tax
abbrev IsTaxed : Value → ℕ → Value → Cents → ℕ → Type 0
IsTaxed v low w x r =
    IsTrue (((is_ok (many_value Subtract (v ∷ Dollar (cents low) ∷ [])) && true) && true) && is_ok (two_value Multiply (part_value v low) w))
    × (value_of (two_value Multiply (part_value v low) w) ≡ Dollar (taxed x r))

both_sure : (s p : Bool) → s ≡ true → p ≡ true → (((s && true) && true) && p) ≡ true
both_sure s p e f = rw (e, f) refl

part_taxed : (v w : Value) (u : Cents) (low r : ℕ) → v ≡ Dollar u → IsTaxable u → low ≤ 1000000 → IsRate w r → IsTaxed v low w (part_above low u) r
part_taxed v w u low r e small few q =
    let rest = u -ℤ cents low in
    let range = in_range_of rest (record { low = rw small.same (omega (arith, ints)); high = rw small.same (omega (arith, ints, small.small)) }) in
    let less = difference_is v (Dollar (cents low)) u (cents low) e refl range in
    let greater = greater_is (Dollar (pos 0)) (over_value v low) (pos 0) rest refl (ap value_of less) in
    let high : rest ≤ℤ pos 200000000000000 = rw small.same (omega (arith, ints, small.small)) in
    let product = times_is (part_value v low) w (part_above low u) r greater (greater_up_to rest 200000000000000 high) q in
    (both_sure (is_ok (many_value Subtract (v ∷ Dollar (cents low) ∷ []))) (is_ok (two_value Multiply (part_value v low) w)) (ap is_ok less) (ap is_ok product), ap value_of product)

-- ---- the tax of each band

abbrev lesser_value : Cents → ℕ → Value
lesser_value t high = value_of (many_value LesserOf (Dollar t ∷ Dollar (cents high) ∷ []))

lesser_taxable : (t : Cents) (high : ℕ) → IsTaxable t → IsTaxable (lesser_of t (cents high))
lesser_taxable t high u = rw u.same (up_to (lesser_of (pos u.size) (cents high)) 200000000000000 (low u.size high) (most u.size high u.small))
  where
    low : (n high : ℕ) → pos 0 ≤ℤ lesser_of (pos n) (cents high)
    low n high = grind (arith, ints)

    most : (n high : ℕ) → n ≤ 200000000000000 → lesser_of (pos n) (cents high) ≤ℤ pos 200000000000000
    most n high h = grind (arith, ints)

band_taxed : (t : Cents) (w : Value) (low high r : ℕ) → IsTaxable t → low ≤ 1000000 → IsRate w r → IsTaxed (lesser_value t high) low w (part_between low (Some high) t) r
band_taxed t w low high r u few q =
    part_taxed (lesser_value t high) w (lesser_of t (cents high)) low r (lesser_is (Dollar t) (Dollar (cents high)) t (cents high) refl refl) (lesser_taxable t high u) few q

-- all is above 0
above_zero : (x : Cents) → IsTaxable x → part_above 0 x ≡ x
above_zero x u = rw u.same (part_is 0 None u.size ∙ ap pos (zeros u.size))
  where
    zeros : (n : ℕ) → n - 0 * 100 ≡ n
    zeros n = omega arith

few : (y : IncomeYear) → IsWrittenIncome y → (k : ℕ) (s : Status) → end_at y k s ≤ 1000000
few y w k s = at_most (ends y s) (w.few s) k
  where
    at_most : (es : List ℕ) → IsTrue (list_all (λ e. nat_le e 1000000) es) → (k : ℕ) → unwrap_or (slice_get es k) 0 ≤ 1000000
    at_most [] h k = omega arith
    at_most (e ∷ es) h zero = let p = both (nat_le e 1000000) (list_all (λ e. nat_le e 1000000) es) h in let q : IsTrue (nat_le e 1000000) = p.0 in grind (arith, nat_tests)
    at_most (e ∷ es) h (suc k) = at_most es (both (nat_le e 1000000) (list_all (λ e. nat_le e 1000000) es) h).1 k

-- ---- the rates

abbrev rate_of : List ℕ → Value
rate_of text = constant_value facts_of_year.filing_statuses (literal_rational text)

rate_10 : IsRate (rate_of (codes "1/10")) 10
unfolding gcd
rate_10 = record { num = 1; den = 10; times = 10; value = refl; some = omega arith; up = refl; down = refl; small = omega arith }

rate_12 : IsRate (rate_of (codes "12/100")) 12
unfolding gcd
rate_12 = record { num = 3; den = 25; times = 4; value = refl; some = omega arith; up = refl; down = refl; small = omega arith }

rate_22 : IsRate (rate_of (codes "22/100")) 22
unfolding gcd
rate_22 = record { num = 11; den = 50; times = 2; value = refl; some = omega arith; up = refl; down = refl; small = omega arith }

rate_24 : IsRate (rate_of (codes "24/100")) 24
unfolding gcd
rate_24 = record { num = 6; den = 25; times = 4; value = refl; some = omega arith; up = refl; down = refl; small = omega arith }

rate_32 : IsRate (rate_of (codes "32/100")) 32
unfolding gcd
rate_32 = record { num = 8; den = 25; times = 4; value = refl; some = omega arith; up = refl; down = refl; small = omega arith }

rate_35 : IsRate (rate_of (codes "35/100")) 35
unfolding gcd
rate_35 = record { num = 7; den = 20; times = 5; value = refl; some = omega arith; up = refl; down = refl; small = omega arith }

rate_37 : IsRate (rate_of (codes "37/100")) 37
unfolding gcd
rate_37 = record { num = 37; den = 100; times = 1; value = refl; some = omega arith; up = refl; down = refl; small = omega arith }

-- ---- the tax of all bands

bands_total : (y : IncomeYear) (s : Status) (t : Cents)
    → (taxed (part_between 0 (Some (end_at y 0 s)) t) 10
    +ℤ (taxed (part_between (end_at y 0 s) (Some (end_at y 1 s)) t) 12
    +ℤ (taxed (part_between (end_at y 1 s) (Some (end_at y 2 s)) t) 22
    +ℤ (taxed (part_between (end_at y 2 s) (Some (end_at y 3 s)) t) 24
    +ℤ (taxed (part_between (end_at y 3 s) (Some (end_at y 4 s)) t) 32
    +ℤ (taxed (part_between (end_at y 4 s) (Some (end_at y 5 s)) t) 35
    +ℤ (taxed (part_between (end_at y 5 s) None t) 37
    +ℤ pos 0)))))))
    ≡ taxes (bands y s) t
bands_total y s t = refl

schedule_is : (y : IncomeYear) → IsWrittenIncome y → (s : Status) (t : Cents) → IsTaxable t → taxes (bands y s) t ≡ schedule y s t
schedule_is y w s t u = rw u.same (same_tax 0 (ends y s) rates u.size (w.rises s))

few_percent : (low : ℕ) (es rs : List ℕ) (n : ℕ) → n ≤ 200000000000000 → IsTrue (list_all (λ r. nat_le r 37) rs) → in_each (bands_from low es rs) n ≤ length rs * 74000000000000
few_percent low es [] n h all = omega arith
few_percent low [] (r ∷ rs) n h all =
    let p = both (nat_le r 37) (list_all (λ r. nat_le r 37) rs) all in
    let q : IsTrue (nat_le r 37) = p.0 in
    let one = small_tax (nat_part low None n) r (omega (arith, h, small_part low None n)) (grind (arith, nat_tests)) in
    omega (arith, one)
few_percent low (e ∷ es) (r ∷ rs) n h all =
    let p = both (nat_le r 37) (list_all (λ r. nat_le r 37) rs) all in
    let q : IsTrue (nat_le r 37) = p.0 in
    let one = small_tax (nat_part low (Some e) n) r (omega (arith, h, small_part low (Some e) n)) (grind (arith, nat_tests)) in
    let rest = few_percent e es rs n h p.1 in
    omega (arith, one, rest)

-- the tax is small too
abbrev pub IsTax : Cents → Type 0
IsTax x = IsUpTo x 518000000000000

schedule_small : (y : IncomeYear) → IsWrittenIncome y → (s : Status) (t : Cents) → IsTaxable t → IsTax (schedule y s t)
schedule_small y w s t u =
    let is : schedule y s t ≡ pos (in_each (bands y s) u.size) = sym (schedule_is y w s t u) ∙ (ap (taxes (bands y s)) u.same ∙ taxes_are (bands y s) u.size) in
    record { size = in_each (bands y s) u.size; same = is; small = few_percent 0 (ends y s) rates u.size u.small refl }

pub tax_small : (y : IncomeYear) → IsWrittenIncome y → (h : Household) → IsModest h.earned_income → IsModest h.other_income → IsTax (schedule_tax y h)
unfolding schedule_tax
tax_small y w h e o = schedule_small y w (status h) (taxable_income y.tables h) (is_taxable y w h e o)

sum_to : (x s : ℤ) → x ≡ s → IsTrue (is_in_range s) → value_as Dollar (checked x) ≡ Ok (Dollar s)
sum_to x s e r = rw (e, r) refl

-- ---- the facts

module _ (y : IncomeYear) (w : IsWrittenIncome y) (t : TypedDictionary) (a : Answered) (h : Household) (numbered : Numbered) (e : IsModest h.earned_income) (o : IsModest h.other_income) where
  taxable : IsTaxable (taxable_income y.tables h)
  taxable = is_taxable y w h e o

  pub tax10_stated : Worth y t a h numbered 52 0 (Dollar (tax_between y h 0 (Some (end_at y 0 (status h))) 10)) (facts.product facts.first_band (facts.rate (codes "1/10")))
  tax10_stated =
      let x = taxable_income y.tables h in
      let high = end_at y 0 (status h) in
      let u = lesser_taxable x high taxable in
      let product = times_is (lesser_value x high) (rate_of (codes "1/10")) (lesser_of x (cents high)) 10 (lesser_is (Dollar x) (Dollar (cents high)) x (cents high) refl refl) u rate_10 in
      λ results. (ap is_ok product, ap value_of product ∙ ap (λ n. Dollar (taxed n 10)) (sym (above_zero (lesser_of x (cents high)) u)))

  pub tax12_stated : Worth y t a h numbered 53 0 (Dollar (tax_between y h (end_at y 0 (status h)) (Some (end_at y 1 (status h))) 12)) (facts.product (facts.band (codes "/end10") (codes "/end12")) (facts.rate (codes "12/100")))
  tax12_stated = λ results. band_taxed (taxable_income y.tables h) (rate_of (codes "12/100")) (end_at y 0 (status h)) (end_at y 1 (status h)) 12 taxable (few y w 0 (status h)) rate_12

  pub tax22_stated : Worth y t a h numbered 54 0 (Dollar (tax_between y h (end_at y 1 (status h)) (Some (end_at y 2 (status h))) 22)) (facts.product (facts.band (codes "/end12") (codes "/end22")) (facts.rate (codes "22/100")))
  tax22_stated = λ results. band_taxed (taxable_income y.tables h) (rate_of (codes "22/100")) (end_at y 1 (status h)) (end_at y 2 (status h)) 22 taxable (few y w 1 (status h)) rate_22

  pub tax24_stated : Worth y t a h numbered 55 0 (Dollar (tax_between y h (end_at y 2 (status h)) (Some (end_at y 3 (status h))) 24)) (facts.product (facts.band (codes "/end22") (codes "/end24")) (facts.rate (codes "24/100")))
  tax24_stated = λ results. band_taxed (taxable_income y.tables h) (rate_of (codes "24/100")) (end_at y 2 (status h)) (end_at y 3 (status h)) 24 taxable (few y w 2 (status h)) rate_24

  pub tax32_stated : Worth y t a h numbered 56 0 (Dollar (tax_between y h (end_at y 3 (status h)) (Some (end_at y 4 (status h))) 32)) (facts.product (facts.band (codes "/end24") (codes "/end32")) (facts.rate (codes "32/100")))
  tax32_stated = λ results. band_taxed (taxable_income y.tables h) (rate_of (codes "32/100")) (end_at y 3 (status h)) (end_at y 4 (status h)) 32 taxable (few y w 3 (status h)) rate_32

  pub tax35_stated : Worth y t a h numbered 57 0 (Dollar (tax_between y h (end_at y 4 (status h)) (Some (end_at y 5 (status h))) 35)) (facts.product (facts.band (codes "/end32") (codes "/end35")) (facts.rate (codes "35/100")))
  tax35_stated = λ results. band_taxed (taxable_income y.tables h) (rate_of (codes "35/100")) (end_at y 4 (status h)) (end_at y 5 (status h)) 35 taxable (few y w 4 (status h)) rate_35

  pub tax37_stated : Worth y t a h numbered 58 0 (Dollar (tax_between y h (end_at y 5 (status h)) None 37)) (facts.product facts.last_band (facts.rate (codes "37/100")))
  tax37_stated =
      let x = taxable_income y.tables h in
      λ results. part_taxed (Dollar x) (rate_of (codes "37/100")) x (end_at y 5 (status h)) 37 refl taxable (few y w 5 (status h)) rate_37

  schedule_sum : (taxes (bands y (status h)) (taxable_income y.tables h)) ≡ schedule_tax y h
  unfolding schedule_tax
  schedule_sum = schedule_is y w (status h) (taxable_income y.tables h) taxable

  pub schedule_stated : Worth y t a h numbered 59 0 (Dollar (schedule_tax y h)) facts.all_taxes
  schedule_stated =
      let x = taxable_income y.tables h in
      let s = status h in
      let sum = sum_to _ (schedule_tax y h) (bands_total y s x ∙ schedule_sum) (up_to_range (schedule_tax y h) 518000000000000 (tax_small y w h e o) (omega arith)) in
      λ results. (ap is_ok sum, ap value_of sum)
