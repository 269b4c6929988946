-- Rounding to multiples gives the multiple that the law names, and no other is.
use Rattle.std.proofs.Common.{◌≡◌, ℕ, suc, ◌+◌, ◌*◌, ◌/◌, ◌≤◌, ◌<◌, ℤ, pos, negsuc, neg_ℤ, ◌+ℤ◌, ◌-ℤ◌, ◌*ℤ◌, ◌≤ℤ◌, ◌<ℤ◌, unsigned_abs, refl, sym, subst, ap, ◌∙◌, arith}
use Rattle.std.specs.Int.{int_div_euclid}
use Rattle.std.proofs.Math.IntN.{neg_ℤ-neg_ℤ}
use Rattle.std.proofs.lemmas.Nat.{mul-le}
use Rattle.std.proofs.lemmas.Int.{by_lt_z}
use borrow.Author.Differences.{up, down, sum_is_lem}
use Rattle.jiff_core.proofs.SignedLemmas.{signed_arith, int_div_euclid-parts, one_part, unsigned_abs-product}
use native.Mathlib.Nat.{div-lt_iff_lt-mul}
use Rattle.common_lemmas.proofs.Numbers.{neg_times, size_of_neg}
use Rattle.fact_values.specs.declared.num.Num.{Num}
use Rattle.fact_values.specs.Rationals.{Ratio}
use Rattle.fact_values.specs.Rounding.{IsNearest, distance, rounded, rounded_size}
use Rattle.fact_values.specs.RoundingLaws.{RoundsToNearest}
use Rattle.fact_values.specs.Totals.{checked}
use Rattle.law_arithmetic.specs.Multiples.{cents_of, IsMultipleOf, IsRoundedUp, IsRoundedDown, IsRoundedNearest, multiple_above, multiple_below, multiple_near, rounded_up, rounded_down, rounded_nearest}

-- ---- products with a natural number

-- a multiple of the unit, in parts of which den make one
regrouped : (t : ℤ) (unit den : ℕ) → t *ℤ pos unit *ℤ pos den ≡ t *ℤ pos (den * unit)
regrouped (pos t) unit den = ap pos (omega arith)
regrouped (negsuc t) unit den = neg_times (suc t * unit) den ∙ ap (λ m. neg_ℤ (pos m)) (omega arith)

negated : (a : ℤ) (d : ℕ) → neg_ℤ a *ℤ pos d ≡ neg_ℤ (a *ℤ pos d)
negated (pos n) d = neg_times n d
negated (negsuc n) d = sym (neg_ℤ-neg_ℤ (pos (suc n * d)))

distributed : (z t : ℤ) (d : ℕ) → (z +ℤ t) *ℤ pos d ≡ (z *ℤ pos d +ℤ t *ℤ pos d)
distributed z t d =
    let scaled : (up (z +ℤ t) + down z + down t) * d ≡ (down (z +ℤ t) + up z + up t) * d = ap (λ n. n * d) (sum_is_lem z t) in
    omega (arith, signed_arith, scaled)

rises : (t z : ℤ) (d : ℕ) → t ≤ℤ z → (t *ℤ pos d) ≤ℤ (z *ℤ pos d)
rises t z d le =
    let parts : up t + down z ≤ up z + down t = omega (arith, signed_arith, le) in
    let scaled : (up t + down z) * d ≤ (up z + down t) * d = mul-le (up t + down z) d (up z + down t) d parts (omega arith) in
    omega (arith, signed_arith, scaled)

-- the next multiple is one unit farther at least
next : (t z : ℤ) (d : ℕ) → t <ℤ z → (t *ℤ pos d +ℤ pos d) ≤ℤ (z *ℤ pos d)
next t z d lt =
    let parts : up t + down z + 1 ≤ up z + down t = omega (arith, signed_arith, lt) in
    let scaled : (up t + down z + 1) * d ≤ (up z + down t) * d = mul-le (up t + down z + 1) d (up z + down t) d parts (omega arith) in
    omega (arith, signed_arith, scaled)

some_parts : (den unit : ℕ) → 1 ≤ den → 1 ≤ unit → 1 ≤ den * unit
some_parts den unit h k = let le : 1 * 1 ≤ den * unit = mul-le 1 1 den unit h k in omega (arith, le)

-- ---- down

module _ (unit : ℕ) (q : Ratio) (some_den : 1 ≤ q.den) (some_unit : 1 ≤ unit) where
  has_parts : 1 ≤ q.den * unit
  has_parts = some_parts q.den unit some_den some_unit

  pub is_rounded_down : IsRoundedDown unit q (multiple_below unit q)
  is_rounded_down =
      let f : ℤ = int_div_euclid q.num (pos (q.den * unit)) in
      let by_parts = int_div_euclid-parts q.num (q.den * unit) has_parts in
      let low : (f *ℤ pos (q.den * unit)) ≤ℤ q.num = omega (arith, signed_arith, by_parts) in
      let high : q.num <ℤ (f *ℤ pos (q.den * unit) +ℤ pos (q.den * unit)) = omega (arith, signed_arith, by_parts) in
      record {
        multiple = (f, refl);
        at_most = subst (λ (x : ℤ). x ≤ℤ q.num) (sym (regrouped f unit q.den)) low;
        greatest = λ other (t, e) at_most.
            let below : (t *ℤ pos (q.den * unit)) ≤ℤ q.num = subst (λ (x : ℤ). x ≤ℤ q.num) (regrouped t unit q.den) (subst (λ (x : ℤ). (x *ℤ pos q.den) ≤ℤ q.num) e at_most) in
            subst (λ (x : ℤ). x ≤ℤ (f *ℤ pos unit)) (sym e)
            (by_lt_z f t (λ lt. let far = next f t (q.den * unit) lt in absurd (omega (arith, signed_arith, far, below, high)))
            (λ le. rises t f unit le));
      }

  pub is_rounded_up : IsRoundedUp unit q (multiple_above unit q)
  is_rounded_up =
      let f : ℤ = int_div_euclid (neg_ℤ q.num) (pos (q.den * unit)) in
      let g : ℤ = neg_ℤ f in
      let by_parts = int_div_euclid-parts (neg_ℤ q.num) (q.den * unit) has_parts in
      let mirrored = negated f (q.den * unit) in
      let low : q.num ≤ℤ (g *ℤ pos (q.den * unit)) = omega (arith, signed_arith, by_parts, mirrored) in
      let high : (g *ℤ pos (q.den * unit)) <ℤ (q.num +ℤ pos (q.den * unit)) = omega (arith, signed_arith, by_parts, mirrored) in
      record {
        multiple = (g, refl);
        at_least = subst (λ (x : ℤ). q.num ≤ℤ x) (sym (regrouped g unit q.den)) low;
        least = λ other (t, e) at_least.
            let above : q.num ≤ℤ (t *ℤ pos (q.den * unit)) = subst (λ (x : ℤ). q.num ≤ℤ x) (regrouped t unit q.den) (subst (λ (x : ℤ). q.num ≤ℤ (x *ℤ pos q.den)) e at_least) in
            subst (λ (x : ℤ). (g *ℤ pos unit) ≤ℤ x) (sym e)
            (by_lt_z t g (λ lt. let far = next t g (q.den * unit) lt in absurd (omega (arith, signed_arith, far, above, high)))
            (λ le. rises g t unit le));
      }

-- ---- nearest, of two numbers a and b that are at least d apart

nearer_than_lower : (a b n : ℤ) (d : ℕ) → 2 * unsigned_abs (a -ℤ n) ≤ d → (b +ℤ pos d) ≤ℤ a → unsigned_abs (a -ℤ n) ≤ unsigned_abs (b -ℤ n)
nearer_than_lower a b n d close apart = omega (arith, signed_arith, one_part (a -ℤ n), one_part (b -ℤ n))

nearer_than_higher : (a b n : ℤ) (d : ℕ) → 2 * unsigned_abs (a -ℤ n) ≤ d → (a +ℤ pos d) ≤ℤ b → unsigned_abs (a -ℤ n) ≤ unsigned_abs (b -ℤ n)
nearer_than_higher a b n d close apart = omega (arith, signed_arith, one_part (a -ℤ n), one_part (b -ℤ n))

nearest_of : (num : ℤ) (d : ℕ) (z t : ℤ) → IsNearest num d z → distance num d z ≤ distance num d t
nearest_of num d z t r =
    by_lt_z t z (λ lt. nearer_than_lower _ _ num d r.close (next t z d lt))
    (λ ge. by_lt_z z t (λ lt. nearer_than_higher _ _ num d r.close (next z t d lt))
    (λ le. let same : z ≡ t = omega (arith, signed_arith, ge, le) in rw same (omega arith)))

-- where both are as near, the first is no nearer to zero
no_farther_lower : (a b n : ℤ) (d : ℕ) → 1 ≤ d → 2 * unsigned_abs (a -ℤ n) ≤ d → (2 * unsigned_abs (a -ℤ n) ≡ d → unsigned_abs n ≤ unsigned_abs a) → unsigned_abs (a -ℤ n) ≡ unsigned_abs (b -ℤ n) → (b +ℤ pos d) ≤ℤ a → (a +ℤ b +ℤ pos d) ≤ℤ pos 0 → ⊥
no_farther_lower a b n d some close tie equal apart low =
    let half : 2 * unsigned_abs (a -ℤ n) ≡ d = omega (arith, signed_arith, one_part (a -ℤ n), one_part (b -ℤ n), equal, apart, close) in
    omega (arith, signed_arith, one_part (a -ℤ n), one_part (b -ℤ n), one_part n, one_part a, tie half, half)

no_farther_higher : (a b n : ℤ) (d : ℕ) → 1 ≤ d → 2 * unsigned_abs (a -ℤ n) ≤ d → (2 * unsigned_abs (a -ℤ n) ≡ d → unsigned_abs n ≤ unsigned_abs a) → unsigned_abs (a -ℤ n) ≡ unsigned_abs (b -ℤ n) → (a +ℤ pos d) ≤ℤ b → pos d ≤ℤ (a +ℤ b) → ⊥
no_farther_higher a b n d some close tie equal apart high =
    let half : 2 * unsigned_abs (a -ℤ n) ≡ d = omega (arith, signed_arith, one_part (a -ℤ n), one_part (b -ℤ n), equal, apart, close) in
    omega (arith, signed_arith, one_part (a -ℤ n), one_part (b -ℤ n), one_part n, one_part a, tie half, half)

module _ (num : ℤ) (d : ℕ) (z t : ℤ) (some : 1 ≤ d) (r : IsNearest num d z) (equal : distance num d z ≡ distance num d t) where
  not_lower : t <ℤ z → unsigned_abs z < unsigned_abs t → ⊥
  not_lower lt farther =
      let sum : (z +ℤ t) <ℤ pos 0 = omega (arith, signed_arith, one_part z, one_part t, lt, farther) in
      let scaled = next (z +ℤ t) (pos 0) d sum in
      no_farther_lower _ _ num d some r.close r.tie equal (next t z d lt) (omega (arith, signed_arith, scaled, distributed z t d))

  not_higher : z <ℤ t → unsigned_abs z < unsigned_abs t → ⊥
  not_higher lt farther =
      let sum : pos 0 <ℤ (z +ℤ t) = omega (arith, signed_arith, one_part z, one_part t, lt, farther) in
      let scaled = next (pos 0) (z +ℤ t) d sum in
      no_farther_higher _ _ num d some r.close r.tie equal (next z t d lt) (omega (arith, signed_arith, scaled, distributed z t d))

  as_far : unsigned_abs t ≤ unsigned_abs z
  as_far =
      by_lt_z (pos (unsigned_abs z)) (pos (unsigned_abs t))
      (λ lt. let farther : unsigned_abs z < unsigned_abs t = omega (arith, signed_arith, lt) in
      by_lt_z t z (λ low. absurd (not_lower low farther)) (λ ge. by_lt_z z t (λ high. absurd (not_higher high farther))
      (λ le. let same : z ≡ t = omega (arith, signed_arith, ge, le) in rw same (omega arith))))
      (λ le. omega (arith, signed_arith, le))

distance_regrouped : (num : ℤ) (unit den : ℕ) (t : ℤ) → distance num den (t *ℤ pos unit) ≡ distance num (den * unit) t
distance_regrouped num unit den t = ap (λ x. unsigned_abs (x -ℤ num)) (regrouped t unit den)

-- sizes of multiples go by how many times the unit they are
sizes_scaled : (t z : ℤ) (unit : ℕ) → unsigned_abs t ≤ unsigned_abs z → unsigned_abs (t *ℤ pos unit) ≤ unsigned_abs (z *ℤ pos unit)
sizes_scaled t z unit le =
    rw (unsigned_abs-product t (pos unit), unsigned_abs-product z (pos unit)) (mul-le (unsigned_abs t) unit (unsigned_abs z) unit le (omega arith))

pub is_rounded_nearest : RoundsToNearest → (unit : ℕ) (q : Ratio) → 1 ≤ q.den → 1 ≤ unit → IsRoundedNearest unit q (multiple_near unit q)
is_rounded_nearest law unit q some_den some_unit =
    let z : ℤ = rounded q.num (q.den * unit) in
    let some : 1 ≤ q.den * unit = some_parts q.den unit some_den some_unit in
    let r = (law q.num (q.den * unit) z some).1 refl in
    let here = distance_regrouped q.num unit q.den z in
    record {
      multiple = (z, refl);
      nearest = λ other (t, e).
          let there : distance q.num q.den other ≡ distance q.num (q.den * unit) t = ap (distance q.num q.den) e ∙ distance_regrouped q.num unit q.den t in
          omega (arith, here, there, nearest_of q.num (q.den * unit) z t r);
      tie = λ other (t, e) equal.
          let there : distance q.num q.den other ≡ distance q.num (q.den * unit) t = ap (distance q.num q.den) e ∙ distance_regrouped q.num unit q.den t in
          let same : distance q.num (q.den * unit) z ≡ distance q.num (q.den * unit) t = sym here ∙ (equal ∙ there) in
          subst (λ (x : ℤ). unsigned_abs x ≤ unsigned_abs (z *ℤ pos unit)) (sym e)
          (sizes_scaled t z unit (as_far q.num (q.den * unit) z t some r same));
    }

-- ---- and no other is

pub only_rounded_up : (unit : ℕ) (q : Ratio) (a b : ℤ) → IsRoundedUp unit q a → IsRoundedUp unit q b → a ≡ b
only_rounded_up unit q a b h k =
    let low = h.least b k.multiple k.at_least in
    let high = k.least a h.multiple h.at_least in
    omega (arith, signed_arith, low, high)

pub only_rounded_down : (unit : ℕ) (q : Ratio) (a b : ℤ) → IsRoundedDown unit q a → IsRoundedDown unit q b → a ≡ b
only_rounded_down unit q a b h k =
    let low = h.greatest b k.multiple k.at_most in
    let high = k.greatest a h.multiple h.at_most in
    omega (arith, signed_arith, low, high)

-- a number that is as near as its negative and as zero
only_zero : (x n : ℤ) → unsigned_abs (x -ℤ n) ≡ unsigned_abs (neg_ℤ x -ℤ n) → unsigned_abs (x -ℤ n) ≤ unsigned_abs (pos 0 -ℤ n) → x ≡ pos 0
only_zero x n equal near =
    omega (arith, signed_arith, one_part x, one_part n, one_part (x -ℤ n), one_part (neg_ℤ x -ℤ n), one_part (pos 0 -ℤ n), equal, near)

opposite : (a b : ℤ) → unsigned_abs a ≡ unsigned_abs b → a <ℤ b → b ≡ neg_ℤ a
opposite a b size lt = omega (arith, signed_arith, one_part a, one_part b, size, lt)

no_zero : (a : ℤ) (d : ℕ) → 1 ≤ d → a *ℤ pos d ≡ pos 0 → a ≡ pos 0
no_zero a d some e =
    let scaled : unsigned_abs a * 1 ≤ unsigned_abs a * d = mul-le (unsigned_abs a) 1 (unsigned_abs a) d (omega arith) some in
    let none : unsigned_abs a * d ≡ 0 = sym (unsigned_abs-product a (pos d)) ∙ ap unsigned_abs e in
    omega (arith, signed_arith, one_part a, scaled, none)

not_nearest_twice : (unit : ℕ) (q : Ratio) (a b : ℤ) → 1 ≤ q.den → IsRoundedNearest unit q a → IsRoundedNearest unit q b → a <ℤ b → ⊥
not_nearest_twice unit q a b some h k lt =
    let equal : distance q.num q.den a ≡ distance q.num q.den b = omega (arith, h.nearest b k.multiple, k.nearest a h.multiple) in
    let size : unsigned_abs a ≡ unsigned_abs b = omega (arith, h.tie b k.multiple equal, k.tie a h.multiple (sym equal)) in
    let other : b ≡ neg_ℤ a = opposite a b size lt in
    let mirrored : b *ℤ pos q.den ≡ neg_ℤ (a *ℤ pos q.den) = ap (λ x. x *ℤ pos q.den) other ∙ negated a q.den in
    let zero_multiple : IsMultipleOf unit (pos 0) = (pos 0, omega (arith, signed_arith)) in
    let none : pos 0 *ℤ pos q.den ≡ pos 0 = omega (arith, signed_arith) in
    let near : distance q.num q.den a ≤ unsigned_abs (pos 0 -ℤ q.num) = subst (λ (x : ℤ). distance q.num q.den a ≤ unsigned_abs (x -ℤ q.num)) none (h.nearest (pos 0) zero_multiple) in
    let zero_product = only_zero (a *ℤ pos q.den) q.num (equal ∙ ap (λ x. unsigned_abs (x -ℤ q.num)) mirrored) near in
    let zero_a = no_zero a q.den some zero_product in
    omega (arith, signed_arith, zero_a, other, lt)

pub only_rounded_nearest : (unit : ℕ) (q : Ratio) (a b : ℤ) → 1 ≤ q.den → IsRoundedNearest unit q a → IsRoundedNearest unit q b → a ≡ b
only_rounded_nearest unit q a b some h k =
    by_lt_z a b (λ lt. absurd (not_nearest_twice unit q a b some h k lt))
    (λ ge. by_lt_z b a (λ lt. absurd (not_nearest_twice unit q b a some k h lt)) (λ le. omega (arith, signed_arith, ge, le)))

-- ---- by the parts that the code works out

module _ (unit : ℕ) (n : Num) (num : ℤ) (d : ℕ) (times : ℤ) (by_num : num ≡ (cents_of n).num) (by_den : d ≡ (cents_of n).den * unit) where
  pub down_by_parts : times ≡ int_div_euclid num (pos d) → checked (times *ℤ pos unit) ≡ rounded_down unit n
  down_by_parts e =
      ap (λ t. checked (t *ℤ pos unit)) (e ∙ (ap (λ x. int_div_euclid x (pos d)) by_num ∙ ap (λ k. int_div_euclid (cents_of n).num (pos k)) by_den))

  pub up_by_parts : times ≡ neg_ℤ (int_div_euclid (neg_ℤ num) (pos d)) → checked (times *ℤ pos unit) ≡ rounded_up unit n
  up_by_parts e =
      ap (λ t. checked (t *ℤ pos unit)) (e ∙ (ap (λ x. neg_ℤ (int_div_euclid (neg_ℤ x) (pos d))) by_num ∙ ap (λ k. neg_ℤ (int_div_euclid (neg_ℤ (cents_of n).num) (pos k))) by_den))

  pub near_by_parts : times ≡ rounded num d → checked (times *ℤ pos unit) ≡ rounded_nearest unit n
  near_by_parts e =
      ap (λ t. checked (t *ℤ pos unit)) (e ∙ (ap (λ x. rounded x d) by_num ∙ ap (λ k. rounded (cents_of n).num k) by_den))

size_is_small : (n d : ℕ) → 1 ≤ d → rounded_size n d ≤ n + 1
size_is_small n d some =
    let scaled : n * 1 ≤ n * d = mul-le n 1 n d (omega arith) some in
    let positive : 0 < 2 * d = omega (arith, some) in
    let large : 2 * n + d < (n + 2) * (2 * d) = omega (arith, scaled, some) in
    let below : (2 * n + d) / (2 * d) < n + 2 = (div-lt_iff_lt-mul positive).1 large in
    omega (arith, below)

pub rounded_is_small : (num : ℤ) (d : ℕ) → 1 ≤ d → unsigned_abs (rounded num d) ≤ unsigned_abs num + 1
rounded_is_small (pos n) d some = size_is_small n d some
rounded_is_small (negsuc n) d some = rw (size_of_neg (rounded_size (suc n) d)) (size_is_small (suc n) d some)
