-- Rounding gives the nearest whole number, and no other is nearest.
use Rattle.std.proofs.Common.{◌≡◌, ℕ, suc, ◌+◌, ◌-◌, ◌*◌, ◌/◌, ◌<◌, ◌≤◌, ℤ, pos, negsuc, ◌*ℤ◌, ◌-ℤ◌, neg_ℤ, unsigned_abs, arith, ap, sym, subst, ◌∙◌}
use Rattle.std.proofs.Math.IntN.{neg_ℤ-neg_ℤ}
use Rattle.std.proofs.Math.Nat.{div-mul-le_self, lt-div-mul-add}
use Rattle.std.proofs.lemmas.Int.{ints}
use Rattle.std.proofs.lemmas.Nat.{div-mul-add}
use Rattle.common_lemmas.proofs.Numbers.{neg_times}
use Rattle.fact_values.specs.Rounding.{rounded_size, rounded, distance, IsNearest}
use Rattle.fact_values.specs.RoundingLaws.{RoundsToNearest}

-- q is at most a half above size / den, and less than a half below
pub record IsRoundedSize (size den q : ℕ) : Type 0 where
  pub above : 2 * (q * den) ≤ 2 * size + den
  pub below : 2 * size < 2 * (q * den) + den

-- the rounded size is so
pub rounded_size_is : (size den : ℕ) → 1 ≤ den → IsRoundedSize size den (rounded_size size den)
rounded_size_is size den h =
    let lo = div-mul-le_self (2 * size + den) (2 * den) in
    let p : 0 < 2 * den = omega arith in
    let hi = lt-div-mul-add {a = 2 * size + den} {b = 2 * den} p in
    record { above = omega (arith, lo); below = omega (arith, hi) }

-- .. and no other number is
pub only_rounded_size : (size den q : ℕ) → 1 ≤ den → IsRoundedSize size den q → q ≡ rounded_size size den
only_rounded_size size den q h r =
    let rest = 2 * size + den - q * (2 * den) in
    let b : rest < 2 * den = omega (arith, r.above, r.below) in
    let e : q * (2 * den) + rest ≡ 2 * size + den = omega (arith, r.above) in
    sym (div-mul-add q (2 * den) rest b) ∙ ap (λ x. x / (2 * den)) e

-- Sizes m and n that are half of d apart at most, and what is known where they are just that.

half_apart : (m n d : ℕ) → 2 * m ≤ 2 * n + d → 2 * n < 2 * m + d → 2 * unsigned_abs (pos m -ℤ pos n) ≤ d
half_apart m n d a b = grind (arith, ints)

not_below : (m n d : ℕ) → 2 * n < 2 * m + d → 2 * unsigned_abs (pos m -ℤ pos n) ≡ d → n ≤ m
not_below m n d b e = grind (arith, ints)

half_above : (m n d : ℕ) → 2 * unsigned_abs (pos m -ℤ pos n) ≤ d → 2 * m ≤ 2 * n + d
half_above m n d a = grind (arith, ints)

less_than_half_below : (m n d : ℕ) → 1 ≤ d → 2 * unsigned_abs (pos m -ℤ pos n) ≤ d → (2 * unsigned_abs (pos m -ℤ pos n) ≡ d → n ≤ m) → 2 * n < 2 * m + d
less_than_half_below m n d h a tie = grind (arith, ints)

-- a size on the other side of zero is not so near
too_far : (m n d : ℕ) → 1 ≤ d → d ≤ m → 2 * unsigned_abs (neg_ℤ (pos m) -ℤ pos n) ≤ d → ⊥
too_far m n d h k a = grind (arith, ints)

-- Negative numbers.

size-neg : (q d : ℕ) → unsigned_abs (neg_ℤ (pos q) *ℤ pos d) ≡ q * d
size-neg q d = rw (neg_times q d) (grind (arith, ints))

distance-neg : (n d q : ℕ) → distance (negsuc n) d (neg_ℤ (pos q)) ≡ distance (pos (suc n)) d (pos q)
distance-neg n d q = rw (neg_times q d) (grind (arith, ints))

distance-across : (n d q : ℕ) → distance (pos (suc n)) d (neg_ℤ (pos q)) ≡ q * d + suc n
distance-across n d q = rw (neg_times q d) (grind (arith, ints))

-- what is nearest to a negative fraction is so, negated, to the positive one
nearest-neg : (n d : ℕ) (z : ℤ) → IsNearest (negsuc n) d z → IsNearest (pos (suc n)) d (neg_ℤ z)
nearest-neg n d (pos q) r =
    record { close = rw (distance-across n d q) r.close; tie = rw (distance-across n d q, size-neg q d) r.tie }
nearest-neg n d (negsuc k) r =
    record {
      close = rw (← distance-neg n d (suc k)) r.close;
      tie = λ e. omega (arith, size-neg (suc k) d, r.tie (ap (λ x. 2 * x) (distance-neg n d (suc k)) ∙ e));
    }

-- Fractions from zero on.

nearest_from_size : (n d q : ℕ) → IsRoundedSize n d q → IsNearest (pos n) d (pos q)
nearest_from_size n d q r =
    record { close = half_apart (q * d) n d r.above r.below; tie = not_below (q * d) n d r.below }

size_from_nearest : (n d : ℕ) (z : ℤ) → 1 ≤ d → IsNearest (pos n) d z → z ≡ pos (rounded_size n d)
size_from_nearest n d (pos q) h r =
    let above = half_above (q * d) n d r.close in
    let below = less_than_half_below (q * d) n d h r.close r.tie in
    ap pos (only_rounded_size n d q h (record { above = above; below = below }))
size_from_nearest n d (negsuc k) h r =
    absurd (too_far (suc k * d) n d h (omega arith) (rw (← neg_times (suc k) d) r.close))

-- All fractions.

pub rounded_is_nearest : (num : ℤ) (den : ℕ) → 1 ≤ den → IsNearest num den (rounded num den)
rounded_is_nearest (pos n) den h = nearest_from_size n den _ (rounded_size_is n den h)
rounded_is_nearest (negsuc n) den h =
    let q = rounded_size (suc n) den in
    let r = nearest_from_size (suc n) den q (rounded_size_is (suc n) den h) in
    record {
      close = rw (distance-neg n den q) r.close;
      tie = rw (distance-neg n den q, size-neg q den) r.tie;
    }

pub nearest_is_rounded : (num : ℤ) (den : ℕ) (z : ℤ) → 1 ≤ den → IsNearest num den z → z ≡ rounded num den
nearest_is_rounded (pos n) den z h r = size_from_nearest n den z h r
nearest_is_rounded (negsuc n) den z h r =
    sym (neg_ℤ-neg_ℤ z) ∙ ap neg_ℤ (size_from_nearest (suc n) den (neg_ℤ z) h (nearest-neg n den z r))

pub rounds_to_nearest : RoundsToNearest
rounds_to_nearest num den z h =
    (nearest_is_rounded num den z h, λ e. subst (λ (w : ℤ). IsNearest num den w) (sym e) (rounded_is_nearest num den h))
