-- Equal fractions have one form in lowest terms.
use Rattle.std.proofs.Common.{◌≡◌, ℕ, zero, suc, ◌+◌, ◌<◌, ◌≤◌, ◌*◌, ◌%◌, ◌/◌, ℤ, pos, negsuc, neg_ℤ, ◌*ℤ◌, unsigned_abs, refl, arith, sym, ap, ◌∙◌, subst}
use Rattle.std.specs.Int.{IsGcd, ◌∣◌}
use Rattle.std.proofs.lemmas.Int.{unsigned_abs-mul}
use Rattle.std.proofs.lemmas.Nat.{mod_below, mod-mul-add, mul-le, div-add-mod'}
use Rattle.std.proofs.lemmas.Nat.Gcd.{same_from_IsGcd, dvd_antisymm}
use native.Mathlib.Nat.{dvd-mul_left, dvd-mul_right, eq_of_mul-eq-mul_right}
use Rattle.fact_values.specs.Rationals.{gcd, Ratio, IsRational}
use Rattle.fact_values.proofs.Divisors.{IsGcd-gcd, gcd-zero, gcd-mod}

spread : (x y r k : ℕ) → (x * y + r) * k ≡ x * (y * k) + r * k
spread x y r k = omega arith

mod-scaled : (a b k : ℕ) → 0 < b → 0 < k → a * k % (b * k) ≡ a % b * k
mod-scaled a b k some scale =
    let below : a % b < b = mod_below a b some in
    let next : (a % b + 1) * k ≤ b * k = mul-le (a % b + 1) k b k (omega arith) (omega arith) in
    let small : a % b * k < b * k = omega arith in
    ap (λ n. n * k % (b * k)) (sym (div-add-mod' a b))
    ∙ ap (λ n. n % (b * k)) (spread (a / b) b (a % b) k)
    ∙ mod-mul-add (a / b) (b * k) (a % b * k) small

-- a factor of both numbers is one of their greatest divisor
gcd-scaled_within : (steps a b k : ℕ) → 0 < k → b ≤ steps → gcd (a * k) (b * k) ≡ gcd a b * k
gcd-scaled_within zero a b k scale le =
    let none : b ≡ 0 = omega arith in
    let none_scaled : b * k ≡ 0 = rw none (omega arith) in
    gcd-zero (a * k) (b * k) none_scaled ∙ ap (λ n. n * k) (sym (gcd-zero a b none))
gcd-scaled_within (suc steps) a zero k scale le =
    gcd-zero (a * k) (zero * k) (omega arith) ∙ ap (λ n. n * k) (sym (gcd-zero a zero refl))
gcd-scaled_within (suc steps) a (suc b) k scale le =
    let below : a % suc b < suc b = mod_below a (suc b) (omega arith) in
    sym (gcd-mod (a * k) (suc b * k))
    ∙ ap (λ n. gcd (suc b * k) n) (mod-scaled a (suc b) k (omega arith) scale)
    ∙ gcd-scaled_within steps (suc b) (a % suc b) k scale (omega arith)
    ∙ ap (λ n. n * k) (gcd-mod a (suc b))

gcd-scaled : (a b k : ℕ) → 0 < k → IsGcd a b 1 → gcd (a * k) (b * k) ≡ k
gcd-scaled a b k scale lowest =
    let one : gcd a b ≡ 1 = same_from_IsGcd a b _ _ (IsGcd-gcd a b) lowest in
    let once : 1 * k ≡ k = omega arith in
    gcd-scaled_within b a b k scale (omega arith) ∙ ap (λ n. n * k) one ∙ once

-- lowest terms of equal fractions: the one denominator divides the other
den_divides : (a b c d : ℕ) → 0 < d → IsGcd a b 1 → a * d ≡ c * b → b ∣ d
den_divides a b c d some lowest e =
    let left : b ∣ a * d = subst (λ n. b ∣ n) (sym e) (dvd-mul_left b c) in
    subst (λ n. b ∣ n) (gcd-scaled a b d some lowest) ((IsGcd-gcd (a * d) (b * d)).2 b left (dvd-mul_right b d))

opposite : (m n : ℕ) → 0 < n → pos m ≡ neg_ℤ (pos n) → ⊥
opposite m zero some e = omega arith
opposite m (suc n) some e = cc

product_pos : (n d : ℕ) → 0 < d → 0 < suc n * d
product_pos n d some = let le : 1 * d ≤ suc n * d = mul-le 1 d (suc n) d (omega arith) (omega arith) in omega arith

same_size : (x y : ℤ) (d : ℕ) → 0 < d → x *ℤ pos d ≡ y *ℤ pos d → unsigned_abs x ≡ unsigned_abs y
same_size x y d some e =
    eq_of_mul-eq-mul_right d some (unsigned_abs x) (unsigned_abs y)
    (sym (unsigned_abs-mul x (pos d)) ∙ ap unsigned_abs e ∙ unsigned_abs-mul y (pos d))

-- a factor that is not 0 cancels
cancel : (x y : ℤ) (d : ℕ) → 0 < d → x *ℤ pos d ≡ y *ℤ pos d → x ≡ y
cancel (pos a) (pos c) d some e = ap pos (same_size (pos a) (pos c) d some e)
cancel (pos a) (negsuc c) d some e = absurd (opposite (a * d) (suc c * d) (product_pos c d some) e)
cancel (negsuc a) (pos c) d some e = absurd (opposite (c * d) (suc a * d) (product_pos a d some) (sym e))
cancel (negsuc a) (negsuc c) d some e =
    let size : suc a ≡ suc c = same_size (negsuc a) (negsuc c) d some e in
    ap negsuc (omega arith)

pub lowest-unique : (p q : Ratio) → IsRational p → IsRational q → p.num *ℤ pos q.den ≡ q.num *ℤ pos p.den → p ≡ q
lowest-unique p q hp hq e =
    let sizes : unsigned_abs p.num * q.den ≡ unsigned_abs q.num * p.den =
    sym (unsigned_abs-mul p.num (pos q.den)) ∙ ap unsigned_abs e ∙ unsigned_abs-mul q.num (pos p.den) in
    let dens : p.den ≡ q.den =
    dvd_antisymm (den_divides _ _ _ _ hq.0 hp.3 sizes) (den_divides _ _ _ _ hp.0 hq.3 (sym sizes)) in
    let nums : p.num ≡ q.num = cancel p.num q.num q.den hq.0 (e ∙ ap (λ d. q.num *ℤ pos d) dens) in
    let over : ℤ → ℕ → Ratio = λ n d. record { num = n; den = d } in
    ap (λ n. over n p.den) nums ∙ ap (λ d. over q.num d) dens
