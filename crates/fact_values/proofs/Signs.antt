-- Fractions with a denominator below zero, in numbers of 128 bits.
use Rattle.std.proofs.Common.{◌≡◌, ◌≤◌, ◌<◌, zero, suc, ℤ, pos, negsuc, neg_ℤ, unsigned_abs, true, false, FitsSigned, to_z, of_z, refl, sym, ap, subst, ◌∙◌, arith}
use Rattle.std.specs.Prelude.{◌-ℤ◌}
use Rattle.std.specs.Int.{w128}
use Rattle.std.specs.Int.Signed.{lt_z}
use Rattle.std.proofs.lemmas.Bool.{ltb-true}
use Rattle.std.proofs.lemmas.Int.{fits_signed_from_abs, ints, to_z-of_z}
use Rattle.common_lemmas.proofs.Numbers.{size_of_neg}
use Rattle.fact_values.specs.Rationals.{checked_lowest, checked_ratio}

zero_less : (n : ℤ) → pos 0 -ℤ n ≡ neg_ℤ n
zero_less (pos zero) = refl
zero_less (pos (suc n)) = omega (arith, ints)
zero_less (negsuc n) = omega (arith, ints)

size_negated : (n : ℤ) → unsigned_abs (neg_ℤ n) ≡ unsigned_abs n
size_negated (pos n) = size_of_neg n
size_negated (negsuc n) = refl

module _ (n : ℤ) (fits : FitsSigned w128 n) (small : unsigned_abs n ≤ 1000000000000000000000000000000) where
  same : pos 0 -ℤ to_z w128 (of_z w128 n) ≡ neg_ℤ n
  same = ap (λ z. pos 0 -ℤ z) (to_z-of_z w128 n fits) ∙ zero_less n

  negative_fits : FitsSigned w128 (neg_ℤ n)
  negative_fits = fits_signed_from_abs w128 (neg_ℤ n) (rw (size_negated n) (omega (arith, small)))

  pub negation_fits : FitsSigned w128 (pos 0 -ℤ to_z w128 (of_z w128 n))
  negation_fits = subst (λ z. FitsSigned w128 z) (sym same) negative_fits

  pub negated : to_z w128 (of_z w128 (pos 0 -ℤ to_z w128 (of_z w128 n))) ≡ neg_ℤ n
  negated = ap (λ z. to_z w128 (of_z w128 z)) same ∙ to_z-of_z w128 (neg_ℤ n) negative_fits

  pub negated_size : unsigned_abs (to_z w128 (of_z w128 (pos 0 -ℤ to_z w128 (of_z w128 n)))) ≤ 1000000000000000000000000000000
  negated_size = subst (λ z. unsigned_abs z ≤ 1000000000000000000000000000000) (sym negated) (rw (size_negated n) small)

pub below_size : (d : ℤ) → lt_z d (pos 0) ≡ true → 0 < unsigned_abs d
below_size (pos d) is = absurd (omega (arith, ltb-true d 0 is))
below_size (negsuc d) is = omega arith

pub above_size : (d : ℤ) → lt_z d (pos 0) ≡ false → (of_z w128 d ≡ 0 → ⊥) → 0 < unsigned_abs d
above_size (pos zero) is some = absurd (some refl)
above_size (pos (suc d)) is some = omega arith
above_size (negsuc d) is some = omega arith

-- the sign is the numerator's
pub ratio_below : (n d : ℤ) → lt_z d (pos 0) ≡ true → checked_ratio n d ≡ checked_lowest (neg_ℤ n) (unsigned_abs d)
ratio_below n (pos d) is = absurd (omega (arith, ltb-true d 0 is))
ratio_below n (negsuc d) is = refl

pub ratio_above : (n d : ℤ) → lt_z d (pos 0) ≡ false → (of_z w128 d ≡ 0 → ⊥) → checked_ratio n d ≡ checked_lowest n (unsigned_abs d)
ratio_above n (pos zero) is some = absurd (some refl)
ratio_above n (pos (suc d)) is some = refl
ratio_above n (negsuc d) is some = cc
