-- A text is refused at one line.
use Rattle.saved_text.proofs.Common.{IsRefusedAt, List, arith, le_of_suc-le-suc, lt_of_not-le, suc, ℕ, ◌≡◌, ◌≤◌}

no_later : (IsText : List ℕ → Type 0) (bytes : List ℕ) (n m : ℕ) → IsRefusedAt IsText bytes n → IsRefusedAt IsText bytes m → n ≤ m
no_later IsText bytes n m h k =
    let no_less : ¬ (suc m ≤ n) = λ below. k.here (omega (arith, below, h.high)) (h.before m below) in
    le_of_suc-le-suc (lt_of_not-le no_less)

pub refused_at_one : (IsText : List ℕ → Type 0) (bytes : List ℕ) (n m : ℕ) → IsRefusedAt IsText bytes n → IsRefusedAt IsText bytes m → n ≡ m
refused_at_one IsText bytes n m h k = omega (arith, no_later IsText bytes n m h k, no_later IsText bytes m n k h)
