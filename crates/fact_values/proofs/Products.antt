-- Products of numbers that fit into 64 bits, as 128 bits hold them.
use Rattle.std.proofs.Common.{◌≡◌, ◌≤◌, ◌*◌, ℕ, ℤ, ◌*ℤ◌, unsigned_abs, FitsSigned, to_z, of_z, sym, ap, subst, ◌∙◌, arith}
use Rattle.std.specs.Int.{w128}
use Rattle.std.proofs.lemmas.Int.{fits_signed_from_abs, fits_signed_mul, to_z-of_z, unsigned_abs-mul}
use Rattle.std.proofs.lemmas.Nat.{mul-le}

-- the size of a product
pub size_of_product : (a b : ℤ) (m n : ℕ) → unsigned_abs a ≤ m → unsigned_abs b ≤ n → unsigned_abs (a *ℤ b) ≤ m * n
size_of_product a b m n left right = rw (unsigned_abs-mul a b) (mul-le (unsigned_abs a) (unsigned_abs b) m n left right)

widened : (x z : ℤ) → x ≡ z → unsigned_abs z ≤ 1000000000000000 → to_z w128 (of_z w128 x) ≡ z
widened x z same small = ap (λ k. to_z w128 (of_z w128 k)) same ∙ to_z-of_z w128 z (fits_signed_from_abs w128 z (omega arith))

module _ (x y a b : ℤ) (left : x ≡ a) (right : y ≡ b) (a_size : unsigned_abs a ≤ 1000000000000000) (b_size : unsigned_abs b ≤ 1000000000000000) where
  same_product : to_z w128 (of_z w128 x) *ℤ to_z w128 (of_z w128 y) ≡ a *ℤ b
  same_product = ap (λ z. z *ℤ to_z w128 (of_z w128 y)) (widened x a left a_size) ∙ ap (λ z. a *ℤ z) (widened y b right b_size)

  pub product_fits : FitsSigned w128 (to_z w128 (of_z w128 x) *ℤ to_z w128 (of_z w128 y))
  product_fits = subst (λ z. FitsSigned w128 z) (sym same_product) (fits_signed_mul w128 a b 1000000000000000 1000000000000000 a_size b_size (omega arith))

  pub product_kept : to_z w128 (of_z w128 (to_z w128 (of_z w128 x) *ℤ to_z w128 (of_z w128 y))) ≡ a *ℤ b
  product_kept = to_z-of_z w128 _ product_fits ∙ same_product
