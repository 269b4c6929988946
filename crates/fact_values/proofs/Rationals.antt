-- Fractions in lowest terms.
use Rattle.std.proofs.Common.{◌≡◌, ℕ, suc, ◌<◌, ◌≤◌, ◌*◌, ◌/◌, ℤ, pos, negsuc, neg_ℤ, unsigned_abs, int_div, refl, arith, sym, ap, ◌∙◌, subst}
use Rattle.std.specs.Int.{IsGcd}
use Rattle.common_lemmas.proofs.Numbers.{neg_times, size_of_neg}
use Rattle.fact_values.specs.Rationals.{gcd, lowest, IsRational, checked_lowest}
use Rattle.fact_values.specs.RatioLaws.{IsEqualTo}
use Rattle.fact_values.proofs.Divisors.{IsGcd-div-gcd, div-gcd_pos, div-gcd-mul_left, div-gcd-mul_right}

-- the size of a quotient
pub unsigned_abs-int_div : (z : ℤ) (d : ℕ) → unsigned_abs (int_div z (pos d)) ≡ unsigned_abs z / d
unsigned_abs-int_div (pos n) d = refl
unsigned_abs-int_div (negsuc n) d = size_of_neg (suc n / d)

-- lowest terms have no divisor in common but 1
pub IsGcd-lowest : (n : ℤ) (d : ℕ) → 0 < d → IsGcd (unsigned_abs (lowest n d).num) (lowest n d).den 1
IsGcd-lowest n d some =
    subst (λ m. IsGcd m (lowest n d).den 1) (sym (unsigned_abs-int_div n (gcd (unsigned_abs n) d))) (IsGcd-div-gcd (unsigned_abs n) d some)

-- lowest terms that are small make a Rational
pub IsRational-lowest : (n : ℤ) (d : ℕ) → 0 < d → unsigned_abs (lowest n d).num ≤ 1000000000000 → (lowest n d).den ≤ 1000000000000 → IsRational (lowest n d)
IsRational-lowest n d some num den = (div-gcd_pos (unsigned_abs n) d some, den, num, IsGcd-lowest n d some)

swap_factors : (x y g : ℕ) → x * (y * g) ≡ x * g * y
swap_factors x y g = omega arith

-- lowest terms are equal to the fraction: crosswise the products are one
crosswise : (a b : ℕ) → a / gcd a b * b ≡ a * (b / gcd a b)
crosswise a b =
    let left : a / gcd a b * gcd a b ≡ a = div-gcd-mul_left a b in
    let right : b / gcd a b * gcd a b ≡ b = div-gcd-mul_right a b in
    ap (λ n. a / gcd a b * n) (sym right) ∙ swap_factors (a / gcd a b) (b / gcd a b) (gcd a b) ∙ ap (λ n. n * (b / gcd a b)) left

pub lowest-equal : (n : ℤ) (d : ℕ) → IsEqualTo (lowest n d) n d
lowest-equal (pos a) d = ap pos (crosswise a d)
lowest-equal (negsuc a) d = neg_times (suc a / gcd (suc a) d) d ∙ ap (λ m. neg_ℤ (pos m)) (crosswise (suc a) d)

-- what is equal has equal lowest terms
pub same_checked : {m n : ℤ} {c d : ℕ} → m ≡ n → c ≡ d → checked_lowest m c ≡ checked_lowest n d
same_checked {m} {n} {c} {d} e f = ap (λ z. checked_lowest z c) e ∙ ap (λ k. checked_lowest n k) f
