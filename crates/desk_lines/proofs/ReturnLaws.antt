-- A line without its final byte 13.
use Rattle.std.proofs.Common.{◌≡◌, ℕ, suc, ◌-◌, Bool, true, false, List, [], ◌∷◌, ◌++◌, length, take, refl, sym, ap, ◌∙◌, arith}
use Rattle.std.specs.Prelude.{◌==◌, slice_index, if◌then◌else◌}
use Rattle.script_lines.specs.Commands.{without_return}

-- a byte in front of a line that has one
without_return-cons : (b c : ℕ) (cs : List ℕ) → without_return (b ∷ c ∷ cs) ≡ b ∷ without_return (c ∷ cs)
without_return-cons b c cs =
    let last : length (c ∷ cs) - 1 ≡ length cs = omega arith in
    let next : length (b ∷ c ∷ cs) - 1 ≡ suc (length cs) = omega arith in
    ap (shorn_at (b ∷ c ∷ cs)) next ∙ by_cases (slice_index (c ∷ cs) (length cs) == 13) ∙ ap (λ (n : ℕ). b ∷ shorn_at (c ∷ cs) n) (sym last)
  where
    shorn_at : List ℕ → ℕ → List ℕ
    shorn_at line n = if slice_index line n == 13 then take n line else line

    by_cases : (t : Bool) → (if t then b ∷ take (length cs) (c ∷ cs) else b ∷ c ∷ cs) ≡ b ∷ (if t then take (length cs) (c ∷ cs) else c ∷ cs)
    by_cases true = refl
    by_cases false = refl

-- a text in front of a line that has a byte
without_return-behind : (front : List ℕ) (c : ℕ) (cs : List ℕ) → without_return (front ++ c ∷ cs) ≡ front ++ without_return (c ∷ cs)
without_return-behind [] c cs = refl
without_return-behind (b ∷ []) c cs = without_return-cons b c cs
without_return-behind (b ∷ d ∷ front) c cs = without_return-cons b d (front ++ c ∷ cs) ∙ ap (λ (l : List ℕ). b ∷ l) (without_return-behind (d ∷ front) c cs)

-- a blank in front of any line
without_return-blank : (rest : List ℕ) → without_return (32 ∷ rest) ≡ 32 ∷ without_return rest
without_return-blank [] = refl
without_return-blank (c ∷ cs) = without_return-cons 32 c cs

-- a text that ends with a blank, in front of any line
pub without_return-blanked : (front rest : List ℕ) → without_return (front ++ 32 ∷ rest) ≡ front ++ 32 ∷ without_return rest
without_return-blanked front rest = without_return-behind front 32 rest ∙ ap (λ (l : List ℕ). front ++ l) (without_return-blank rest)

-- what was dropped stood at the end
pub dropped : (line : List ℕ) → (ending : List ℕ) × (line ≡ without_return line ++ ending)
dropped [] = ([], refl)
dropped (b ∷ []) = by_cases (b == 13)
  where
    by_cases : (t : Bool) → (ending : List ℕ) × (b ∷ [] ≡ (if t then [] else b ∷ []) ++ ending)
    by_cases true = (b ∷ [], refl)
    by_cases false = ([], refl)
dropped (b ∷ c ∷ cs) =
    let rest = dropped (c ∷ cs) in
    (rest.0, ap (λ (l : List ℕ). b ∷ l) rest.1 ∙ ap (λ (l : List ℕ). l ++ rest.0) (sym (without_return-cons b c cs)))
