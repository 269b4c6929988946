-- Tests on numbers, and signed numbers by their size.
use Rattle.std.proofs.Common.{◌≡◌, ℕ, zero, suc, ◌*◌, true, false, refl, arith}
use Rattle.std.proofs.Common.{ℤ, pos, neg_ℤ, ◌*ℤ◌, ◌≤ℤ◌, unsigned_abs}
use Rattle.std.specs.Prelude.{nat_eq, int_lt}
use Rattle.std.specs.Cmp.{nat_eq_equiv}
use Rattle.std.proofs.lemmas.Bool.Decides.{nat_tests}
use Rattle.std.proofs.lemmas.Int.{ints}

pub same_number : (n m : ℕ) → nat_eq n m ≡ true → n ≡ m
same_number n m h = grind (arith, nat_tests)

pub equal_number : (n : ℕ) → nat_eq n n ≡ true
equal_number n = grind (arith, nat_tests)

pub nat_eq-comm : (n m : ℕ) → nat_eq n m ≡ nat_eq m n
nat_eq-comm n m = nat_eq_equiv.symm n m

pub not_below : (a b : ℤ) → int_lt b a ≡ false → a ≤ℤ b
not_below a b h = grind (arith, ints)

pub neg_times : (n k : ℕ) → neg_ℤ (pos n) *ℤ pos k ≡ neg_ℤ (pos (n * k))
neg_times zero k = let none : 0 * k ≡ 0 = omega arith in rw none refl
neg_times (suc n) k = refl

pub size_of_neg : (n : ℕ) → unsigned_abs (neg_ℤ (pos n)) ≡ n
size_of_neg zero = refl
size_of_neg (suc n) = refl
