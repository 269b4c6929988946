-- Rounding in each band is rounding once, and the reduction is by the least number of thousands.
use Rattle.std.proofs.Common.{◌≡◌, ℕ, zero, suc, ◌+◌, ◌-◌, ◌*◌, ◌/◌, ◌<◌, ◌≤◌, min, ℤ, pos, negsuc, ◌+ℤ◌, ◌*ℤ◌, nat_le, nat_lt, Bool, true, false, ◌&&◌, IsTrue, List, [], ◌∷◌, Option, Some, None, refl, sym, ap, ◌∙◌, subst, arith}
use Rattle.std.proofs.lemmas.Int.{ints}
use Rattle.std.proofs.lemmas.Bool.Decides.{nat_tests}
use Rattle.std.proofs.Math.Nat.{mul-add-div_right, mul-div-mul_left, mul-le-mul}
use Rattle.common_lemmas.proofs.Bools.{both}
use Rattle.fact_values.specs.Rounding.{rounded, rounded_size}
use Rattle.tax_2023.specs.Household.{Cents}
use Rattle.tax_2023.specs.Tables.{lesser_of}
use Rattle.tax_income.specs.Bands.{Band, bands_from}
use Rattle.tax_income.specs.Laws.{IsLeastCover}
use Rattle.tax_income.specs.Tables.{covers, exact_tax, first_from, part, part_above, part_between, thousands}

-- ---- rounding

-- hundreds stay as they are
hundreds_first : (k x : ℕ) → rounded_size (k * 100 + x) 100 ≡ k + rounded_size x 100
hundreds_first k x =
    let e : 2 * (k * 100 + x) + 100 ≡ k * 200 + (2 * x + 100) = omega arith in
    ap (λ n. n / 200) e ∙ mul-add-div_right {m = 200} (omega arith) k (2 * x + 100)

hundreds : (k : ℕ) → rounded_size (k * 100) 100 ≡ k
hundreds k =
    let e : k * 100 ≡ k * 100 + 0 = omega arith in
    let none : k + rounded_size 0 100 ≡ k = omega arith in
    ap (λ n. rounded_size n 100) e ∙ hundreds_first k 0 ∙ none

-- a fraction in other terms
pub same_fraction : (k s d : ℕ) → 0 < k → rounded_size (k * s) (k * d) ≡ rounded_size s d
same_fraction k s d h =
    let up : 2 * (k * s) + k * d ≡ k * (2 * s + d) = omega arith in
    let down : 2 * (k * d) ≡ k * (2 * d) = omega arith in
    rw (up, down) (mul-div-mul_left {m = k} (2 * s + d) (2 * d) h)

-- ---- the part of a number of cents in a band

abbrev pub nat_part : ℕ → Option ℕ → ℕ → ℕ
nat_part low None n = n - low * 100
nat_part low (Some high) n = min n (high * 100) - low * 100

above_is : (low n : ℕ) → part_above low (pos n) ≡ pos (n - low * 100)
above_is low n = grind (arith, ints)

lesser_is : (n m : ℕ) → lesser_of (pos n) (pos m) ≡ pos (min n m)
lesser_is n m = grind (arith, ints)

pub part_is : (low : ℕ) (high : Option ℕ) (n : ℕ) → part_between low high (pos n) ≡ pos (nat_part low high n)
part_is low None n = above_is low n
part_is low (Some high) n = ap (part_above low) (lesser_is n (high * 100)) ∙ above_is low (min n (high * 100))

-- ---- the bands

abbrev pub exact : List Band → ℕ → ℕ
exact [] n = 0
exact (b ∷ bs) n = nat_part b.above b.until n * b.percent + exact bs n

-- rounded in each band
abbrev pub in_each : List Band → ℕ → ℕ
in_each [] n = 0
in_each (b ∷ bs) n = rounded_size (nat_part b.above b.until n * b.percent) 100 + in_each bs n

-- ends rise
abbrev pub rise : ℕ → List ℕ → Bool
rise low [] = true
rise low (e ∷ es) = nat_le low e && rise e es

low_first : (low e : ℕ) (es : List ℕ) → IsTrue (rise low (e ∷ es)) → (low ≤ e) × IsTrue (rise e es)
low_first low e es h =
    let p = both (nat_le low e) (rise e es) h in
    let le : IsTrue (nat_le low e) = p.0 in
    (grind (arith, nat_tests), p.1)

no_part : (p r : ℕ) → p ≡ 0 → p * r ≡ 0
no_part p r e = rw e (omega arith)

-- no part is above what ends below
none_above : (low : ℕ) (es rs : List ℕ) (n : ℕ) → IsTrue (rise low es) → n ≤ low * 100 → (exact (bands_from low es rs) n ≡ 0) × (in_each (bands_from low es rs) n ≡ 0)
none_above low es [] n h le = (refl, refl)
none_above low [] (r ∷ rs) n h le =
    let none = no_part (n - low * 100) r (omega arith) in
    (rw none refl, rw none refl)
none_above low (e ∷ es) (r ∷ rs) n h le =
    let p = low_first low e es h in
    let rest = none_above e es rs n p.1 (omega (arith, p.0)) in
    let none = no_part (min n (e * 100) - low * 100) r (omega arith) in
    (rw (none, rest.0) refl, rw (none, rest.1) refl)

-- where the number is above an end, the part below it is full and has no fraction
full_part : (low e n : ℕ) → low ≤ e → e * 100 < n → (r : ℕ) → nat_part low (Some e) n * r ≡ ((e - low) * r) * 100
full_part low e n le less r =
    let m : min n (e * 100) ≡ e * 100 = omega arith in
    let d : e * 100 - low * 100 ≡ (e - low) * 100 = omega arith in
    let c : (e - low) * 100 * r ≡ (e - low) * r * 100 = omega arith in
    ap (λ k. (k - low * 100) * r) m ∙ ap (λ k. k * r) d ∙ c

plus_none : (n : ℕ) → n + 0 ≡ n
plus_none n = omega arith

full_first : (p k x y : ℕ) → p ≡ k * 100 → y ≡ rounded_size x 100 → rounded_size p 100 + y ≡ rounded_size (p + x) 100
full_first p k x y e f = rw (e, f, hundreds k) (sym (hundreds_first k x))

none_first : (p x y : ℕ) → x ≡ 0 → y ≡ 0 → rounded_size p 100 + y ≡ rounded_size (p + x) 100
none_first p x y e f = rw (e, f) (plus_none (rounded_size p 100) ∙ ap (λ n. rounded_size n 100) (sym (plus_none p)))

pub rounds_once : (low : ℕ) (es rs : List ℕ) (n : ℕ) → IsTrue (rise low es) → in_each (bands_from low es rs) n ≡ rounded_size (exact (bands_from low es rs) n) 100
rounds_once low es [] n h = refl
rounds_once low [] (r ∷ rs) n h = none_first ((n - low * 100) * r) 0 0 refl refl
rounds_once low (e ∷ es) (r ∷ rs) n h =
    let p = low_first low e es h in
    by_end p.0 p.1 (rounds_once e es rs n p.1) (nat_lt (e * 100) n) refl
  where
    by_end : low ≤ e → IsTrue (rise e es) → in_each (bands_from e es rs) n ≡ rounded_size (exact (bands_from e es rs) n) 100
        → (b : Bool) → nat_lt (e * 100) n ≡ b → rounded_size (nat_part low (Some e) n * r) 100 + in_each (bands_from e es rs) n ≡ rounded_size (nat_part low (Some e) n * r + exact (bands_from e es rs) n) 100
    by_end le up rest true c =
        full_first (nat_part low (Some e) n * r) ((e - low) * r) (exact (bands_from e es rs) n) (in_each (bands_from e es rs) n) (full_part low e n le (grind (arith, nat_tests)) r) rest
    by_end le up rest false c =
        let none = none_above e es rs n up (grind (arith, nat_tests)) in
        none_first (nat_part low (Some e) n * r) (exact (bands_from e es rs) n) (in_each (bands_from e es rs) n) none.0 none.1

-- ---- the least number of thousands

-- the number at which the test is first true
first_is : (steps : ℕ) (test : ℕ → Bool) (n q : ℕ) → n ≤ q → q ≤ n + steps → ((m : ℕ) → m < q → test m ≡ false) → test q ≡ true → (b : Bool) → test n ≡ b → first_from steps test n b ≡ q
first_is zero test n q low high never here b e = omega arith
first_is (suc steps) test n q low high never here true e = same (nat_lt n q) refl
  where
    same : (less : Bool) → nat_lt n q ≡ less → n ≡ q
    same true l = let f : true ≡ false = sym e ∙ never n (grind (arith, nat_tests)) in absurd cc
    same false l = grind (arith, nat_tests)
first_is (suc steps) test n q low high never here false e = first_is steps test (suc n) q (next (nat_lt n q) refl) (omega arith) never here (test (suc n)) refl
  where
    next : (less : Bool) → nat_lt n q ≡ less → suc n ≤ q
    next true l = grind (arith, nat_tests)
    next false l = let s : n ≡ q = grind (arith, nat_tests) in let f : true ≡ false = sym here ∙ (ap test (sym s) ∙ e) in absurd cc

-- thousands of dollars, by division
abbrev pub by_division : ℕ → ℕ
by_division n = (n + 99999) / 100000

covered : (n m : ℕ) → by_division n ≤ m → covers (pos n) m ≡ true
covered n m h = grind (arith, ints)

uncovered : (n m : ℕ) → m < by_division n → covers (pos n) m ≡ false
uncovered n m h = grind (arith, ints)

few_enough : (n : ℕ) → by_division n ≤ 0 + n
few_enough n = omega arith

pub thousands_are : (n : ℕ) → thousands (pos n) ≡ by_division n
unfolding thousands
thousands_are n = first_is n (covers (pos n)) 0 (by_division n) (omega arith) (few_enough n) (uncovered n) (covered n (by_division n) (omega arith)) (covers (pos n) 0) refl

-- rounded to the cent, and that to the dollar
pub rounded_up : (n : ℕ) → rounded_size (rounded_size (n + 49499) 1000) 100 ≡ by_division n
rounded_up n = omega arith

-- ---- whole numbers

pub exact_is : (bs : List Band) (n : ℕ) → exact_tax bs (pos n) ≡ pos (exact bs n)
exact_is [] n = refl
exact_is (b ∷ bs) n = rw (part_is b.above b.until n, exact_is bs n) refl

-- the tax of a part at so many percent
abbrev pub taxed : Cents → ℕ → Cents
taxed part percent = rounded (part *ℤ pos percent) 100

-- the tax of each band, in order
abbrev pub taxes : List Band → Cents → ℤ
taxes [] t = pos 0
taxes (b ∷ bs) t = taxed (part b t) b.percent +ℤ taxes bs t

pub taxes_are : (bs : List Band) (n : ℕ) → taxes bs (pos n) ≡ pos (in_each bs n)
taxes_are [] n = refl
taxes_are (b ∷ bs) n = rw (part_is b.above b.until n, taxes_are bs n) refl

-- in each band and once come to the same
pub same_tax : (low : ℕ) (es rs : List ℕ) (n : ℕ) → IsTrue (rise low es) → taxes (bands_from low es rs) (pos n) ≡ rounded (exact_tax (bands_from low es rs) (pos n)) 100
same_tax low es rs n h = taxes_are (bands_from low es rs) n ∙ (ap pos (rounds_once low es rs n h) ∙ ap (λ x. rounded x 100) (sym (exact_is (bands_from low es rs) n)))

-- a part of at most so much, at a rate of at most 37 percent
pub small_tax : (p r : ℕ) → p ≤ 200000000000000 → r ≤ 37 → rounded_size (p * r) 100 ≤ 74000000000000
small_tax p r h k = let m = mul-le-mul h k in omega arith

-- no part is more than the whole
pub small_part : (low : ℕ) (high : Option ℕ) (n : ℕ) → nat_part low high n ≤ n
small_part low None n = omega arith
small_part low (Some high) n = omega arith

-- ---- the least cover

by_division_least : (n : ℕ) → IsLeastCover (pos n) (by_division n)
by_division_least n = record { covers = omega (arith, ints); least = λ m h. omega (arith, ints, h) }

none_needed : (n : ℕ) → thousands (negsuc n) ≡ 0
unfolding thousands
none_needed n = refl

pub are_least : (amount : Cents) → IsLeastCover amount (thousands amount)
are_least (pos n) = subst (IsLeastCover (pos n)) (sym (thousands_are n)) (by_division_least n)
are_least (negsuc n) = subst (IsLeastCover (negsuc n)) (sym (none_needed n)) (record { covers = omega (arith, ints); least = λ m h. omega (arith, ints) })
