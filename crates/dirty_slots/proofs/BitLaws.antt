-- The first place in a set of bits.
use Rattle.std.proofs.Common.{◌≡◌, ℕ, ◌+◌, ◌*◌, ◌/◌, ◌%◌, ◌<◌, ◌≤◌, true, false, nat_eq, get_or, ap, ◌∙◌, ◌⊎◌, inl, inr, arith}
use Rattle.std.specs.Int.{bit_at}
use Rattle.std.proofs.lemmas.Bool.{cases_lt}
use Rattle.std.proofs.lemmas.Nat.Bits.{bit_at-zero}
use Rattle.dirty_slots.specs.PlaceBits.{has_place, Words}

clear_word : (words : Words) (i : ℕ) → get_or words (i / 64) 0 ≡ 0 → has_place words i ≡ false
clear_word words i clear = ap (λ x. nat_eq x 1) (ap (λ x. bit_at x (i % 64)) clear ∙ bit_at-zero (i % 64))

pub clear_before : (words : Words) (at t : ℕ) → ((w : ℕ) → w < at → get_or words w 0 ≡ 0) → t ≤ 64 → ((k : ℕ) → k < t → bit_at (get_or words at 0) k ≡ 0)
    → (i : ℕ) → i < at * 64 + t → has_place words i ≡ false
clear_before words at t clear few low i l = by (cases_lt (i / 64) at)
  where
    by : (i / 64 < at) ⊎ (at ≤ i / 64) → has_place words i ≡ false
    by (inl k) = clear_word words i (clear (i / 64) k)
    by (inr k) =
        let same : i / 64 ≡ at = omega arith in
        ap (λ x. nat_eq x 1) (ap (λ n. bit_at (get_or words n 0) (i % 64)) same ∙ low (i % 64) (omega arith))

pub clear_past : (words : Words) (at : ℕ) → ((w : ℕ) → w < at → get_or words w 0 ≡ 0) → (i : ℕ) → i < at * 64 → has_place words i ≡ false
clear_past words at clear i l = clear_word words i (clear (i / 64) (omega arith))

pub first_there : (words : Words) (at t : ℕ) → t < 64 → bit_at (get_or words at 0) t ≡ 1 → has_place words (at * 64 + t) ≡ true
first_there words at t few one =
    let word : (at * 64 + t) / 64 ≡ at = omega arith in
    let bit : (at * 64 + t) % 64 ≡ t = omega arith in
    ap (λ x. nat_eq x 1) ((λ j. bit_at (get_or words (word j) 0) (bit j)) ∙ one)
