-- The greatest common divisor: Euclid finds it, and it leaves nothing in common.
use Rattle.std.proofs.Common.{◌≡◌, ℕ, zero, suc, ◌<◌, ◌≤◌, ◌*◌, ◌%◌, ◌/◌, arith, subst}
use Rattle.std.specs.Int.{IsGcd, ◌∣◌}
use Rattle.std.proofs.lemmas.Nat.{mod_below}
use Rattle.std.proofs.lemmas.Nat.Gcd.{IsGcd-from_zero, IsGcd-from_mod, same_from_IsGcd}
use native.Mathlib.Nat.{div-mul_cancel, mul-dvd-mul_right, dvd_of_mul-dvd-mul_right, pos_of_dvd_of_pos, one-dvd, le-div_iff_mul-le, le_of_dvd}
use Rattle.fact_values.specs.Rationals.{gcd, gcd_within}

-- enough steps find it
IsGcd-gcd_within : (steps a b : ℕ) → b ≤ steps → IsGcd a b (gcd_within steps a b)
IsGcd-gcd_within zero a b le = IsGcd-from_zero a b (omega arith)
IsGcd-gcd_within (suc steps) a zero le = IsGcd-from_zero a zero (omega arith)
IsGcd-gcd_within (suc steps) a (suc b) le =
    let below : a % suc b < suc b = mod_below a (suc b) (omega arith) in
    IsGcd-from_mod a (suc b) _ (IsGcd-gcd_within steps (suc b) (a % suc b) (omega arith))

pub IsGcd-gcd : (a b : ℕ) → IsGcd a b (gcd a b)
unfolding gcd
IsGcd-gcd a b = IsGcd-gcd_within b a b (omega arith)

pub gcd-zero : (a b : ℕ) → b ≡ 0 → gcd a b ≡ a
gcd-zero a b e = same_from_IsGcd a b _ _ (IsGcd-gcd a b) (IsGcd-from_zero a b e)

-- one step by a remainder
pub gcd-mod : (a b : ℕ) → gcd b (a % b) ≡ gcd a b
gcd-mod a b = same_from_IsGcd a b _ _ (IsGcd-from_mod a b _ (IsGcd-gcd b (a % b))) (IsGcd-gcd a b)

pub gcd_pos : (a b : ℕ) → 0 < b → 0 < gcd a b
gcd_pos a b some = pos_of_dvd_of_pos (IsGcd-gcd a b).1 some

pub div-gcd_pos : (a b : ℕ) → 0 < b → 0 < b / gcd a b
div-gcd_pos a b some =
    let g : 0 < gcd a b = gcd_pos a b some in
    let le : gcd a b ≤ b = le_of_dvd some (IsGcd-gcd a b).1 in
    (le-div_iff_mul-le g).1 (omega arith)

pub div-gcd-mul_left : (a b : ℕ) → a / gcd a b * gcd a b ≡ a
div-gcd-mul_left a b = div-mul_cancel _ (IsGcd-gcd a b).0

pub div-gcd-mul_right : (a b : ℕ) → b / gcd a b * gcd a b ≡ b
div-gcd-mul_right a b = div-mul_cancel _ (IsGcd-gcd a b).1

-- what is left of two numbers has no divisor in common but 1
pub IsGcd-div-gcd : (a b : ℕ) → 0 < b → IsGcd (a / gcd a b) (b / gcd a b) 1
IsGcd-div-gcd a b some = (
  one-dvd _,
  one-dvd _,
  λ d p q. dvd_of_mul-dvd-mul_right d (gcd_pos a b some)
      (let left : d * gcd a b ∣ a = subst (λ n. d * gcd a b ∣ n) (div-gcd-mul_left a b) (mul-dvd-mul_right d p (gcd a b)) in
      let right : d * gcd a b ∣ b = subst (λ n. d * gcd a b ∣ n) (div-gcd-mul_right a b) (mul-dvd-mul_right d q (gcd a b)) in
      let one_times : gcd a b ≡ 1 * gcd a b = omega arith in
      subst (λ n. d * gcd a b ∣ n) one_times ((IsGcd-gcd a b).2 (d * gcd a b) left right)),
)
