-- What operations on numbers give is in the range of its type.
use Rattle.std.proofs.Common.{◌≡◌, ℕ, zero, suc, ◌+◌, ◌*◌, ◌<◌, ◌≤◌, ℤ, pos, negsuc, neg_ℤ, ◌+ℤ◌, ◌-ℤ◌, ◌*ℤ◌, int_lt, unsigned_abs, Bool, true, false, nat_le, if◌then◌else◌, Ok, Err, refl, subst, arith}
use Rattle.std.proofs.Math.Nat.{mul-pos}
use Rattle.std.proofs.lemmas.Bool.{leb-true, lt-ltb}
use Rattle.fact_values.specs.Days.{IsDay, day_after, is_day, last_year_begun, year_of, number_of}
use Rattle.fact_values.specs.declared.fault.ValueFault.TheVariants.{Overflow}
use Rattle.fact_values.specs.Range.{IsInRange, is_in_range}
use Rattle.fact_values.specs.Rationals.{IsRational, Ratio, checked_lowest, checked_ratio, difference_of_ratios, is_small, lowest, sum_of_ratios}
use Rattle.fact_values.specs.Totals.{checked}
use Rattle.fact_values.proofs.Rationals.{IsRational-lowest}
use Rattle.common_lemmas.proofs.Bools.{both}

-- ---- whole numbers

checked_by : (z : ℤ) (b : Bool) → is_in_range z ≡ b → (x : ℤ) → checked z ≡ Ok x → IsInRange x
checked_by z true h x e = let same : z ≡ x = cc in subst IsInRange same h
checked_by z false h x e = absurd (cc)

pub checked-in-range : (z x : ℤ) → checked z ≡ Ok x → IsInRange x
checked-in-range z x e = checked_by z (is_in_range z) refl x e

pub small-in-range : (n : ℕ) → n < 1000000000000000 → IsInRange (pos n)
small-in-range n h = lt-ltb n 1000000000000000 h

-- ---- days

day_by : (z : ℤ) (b : Bool) → is_day z ≡ b → (x : ℤ) → (if is_day z then Ok z else Err Overflow) ≡ Ok x → IsDay x
day_by z true h x e = let same : z ≡ x = cc in subst IsDay same h
day_by z false h x e = absurd (cc)

pub day_after-is-day : (day n x : ℤ) → day_after day n ≡ Ok x → IsDay x
day_after-is-day day n x e = day_by (day +ℤ n) (is_day (day +ℤ n)) refl x e

either_in_range : (b : Bool) (x y : ℤ) → IsInRange x → IsInRange y → IsInRange (if b then x else y)
either_in_range true x y h k = h
either_in_range false x y h k = k

last_year_in_range : (k : ℕ) (n : ℤ) → k ≤ 399 → IsInRange (last_year_begun k n)
unfolding last_year_begun
last_year_in_range zero n h = refl
last_year_in_range (suc k) n h =
    either_in_range (int_lt n (number_of (pos (suc k + 1800)) (pos 1) (pos 1))) (last_year_begun k n) (pos (suc k + 1800))
    (last_year_in_range k n (omega arith)) (small-in-range (suc k + 1800) (omega arith))

pub year-in-range : (n : ℤ) → IsInRange (year_of n)
year-in-range n = last_year_in_range 399 n (omega arith)

-- ---- fractions

small_by : (n : ℤ) (d : ℕ) → 0 < d → (b : Bool) → is_small (lowest n d) ≡ b → (q : Ratio) → checked_lowest n d ≡ Ok q → IsRational q
small_by n d some true h q e =
    let sizes = both (nat_le (unsigned_abs (lowest n d).num) 1000000000000) (nat_le (lowest n d).den 1000000000000) h in
    let same : lowest n d ≡ q = cc in
    subst IsRational same (IsRational-lowest n d some (leb-true _ _ sizes.0) (leb-true _ _ sizes.1))
small_by n d some false h q e = absurd (cc)

pub checked_lowest-is-rational : (n : ℤ) (d : ℕ) → 0 < d → (q : Ratio) → checked_lowest n d ≡ Ok q → IsRational q
checked_lowest-is-rational n d some q e = small_by n d some (is_small (lowest n d)) refl q e

pub checked_ratio-is-rational : (n m : ℤ) (q : Ratio) → checked_ratio n m ≡ Ok q → IsRational q
checked_ratio-is-rational n (pos zero) q e = absurd (cc)
checked_ratio-is-rational n (pos (suc d)) q e = checked_lowest-is-rational n (suc d) (omega arith) q e
checked_ratio-is-rational n (negsuc d) q e = checked_lowest-is-rational (neg_ℤ n) (suc d) (omega arith) q e

pub sum-is-rational : (a b : Ratio) → IsRational a → IsRational b → (q : Ratio) → sum_of_ratios a b ≡ Ok q → IsRational q
sum-is-rational a b h k q e = checked_lowest-is-rational (a.num *ℤ pos b.den +ℤ b.num *ℤ pos a.den) (a.den * b.den) (mul-pos h.0 k.0) q e

pub difference-is-rational : (a b : Ratio) → IsRational a → IsRational b → (q : Ratio) → difference_of_ratios a b ≡ Ok q → IsRational q
difference-is-rational a b h k q e = checked_lowest-is-rational (a.num *ℤ pos b.den -ℤ b.num *ℤ pos a.den) (a.den * b.den) (mul-pos h.0 k.0) q e
