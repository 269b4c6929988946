-- The words of a load.
use Rattle.std.proofs.Common.{◌≡◌, ℕ, ◌<◌, ◌≤◌, List, [], ◌∷◌, sym, ap, ◌∙◌, arith}
use Rattle.std.specs.Prelude.{codes, decimal}
use Rattle.std.proofs.lemmas.Fmt.{decimal_injective}
use Rattle.fact_paths.specs.Paths.{SpellsMemberNumber}
use Rattle.interview.specs.Words.{HasNoForm, IsGen}
use Rattle.interview.proofs.WordLaws.{no_number, same_number}

same_decimal : (n m : ℕ) → n ≤ 1000000 → m ≤ 1000000 → decimal n ≡ decimal m → n ≡ m
same_decimal n m few low same = decimal_injective n m (omega (arith, few)) (omega (arith, low)) same

pub same_gen : (words : List (List ℕ)) (n m : ℕ) → IsGen words n → IsGen words m → n ≡ m
same_gen words n m g h = same_decimal n m (let few = g.most in omega (arith, few)) (let few = h.most in omega (arith, few)) (same_number words n m g h)

pub beyond : (number : List ℕ) (k : ℕ) → 1000 < k → k ≤ 1000000 → number ≡ decimal k → (n : ℕ) → 1 ≤ n → n ≤ 1000 → number ≡ decimal n → ⊥
beyond number k high low spelled n some most other = let same = same_decimal n k (omega (arith, most)) low (sym other ∙ spelled) in absurd (omega (arith, same, most, high))

-- what the word behind `gen` spells, or doesn't
pub is_number : (number : List ℕ) (n : ℕ) → SpellsMemberNumber number n → n ≤ 1000 → IsGen (codes "gen" ∷ number ∷ []) n
is_number number n spelled most = record { some = spelled.0.0; most = most; spelled = ap (λ (l : List ℕ). codes "gen" ∷ l ∷ []) spelled.1 }

pub too_many : (number : List ℕ) (n : ℕ) → SpellsMemberNumber number n → 1000 < n → HasNoForm (codes "gen" ∷ number ∷ [])
too_many number n spelled high = no_number number (beyond number n high spelled.0.1 spelled.1)

pub not_spelled : (number : List ℕ) → ((k : ℕ) → SpellsMemberNumber number k → ⊥) → HasNoForm (codes "gen" ∷ number ∷ [])
not_spelled number none = no_number number (λ n some most same. none n ((some, omega (arith, most)), same))
