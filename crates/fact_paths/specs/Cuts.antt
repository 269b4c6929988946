-- A text and its parts.
use Rattle.std.specs.Prelude.{◌≡◌, ◌≢◌, ℕ, ◌<◌, ◌==◌, All, length, take, slice_index, List, [], ◌∷◌, Option, Some, None, option_map, if◌then◌else◌}

-- the byte c is nowhere in the text
abbrev pub Lacks : ℕ → List ℕ → Type 0
Lacks c [] = Unit {0}
Lacks c (b ∷ bs) = (b ≢ c) × Lacks c bs

-- the first byte c is here
pub record IsFirstAt (c : ℕ) (text : List ℕ) (at : ℕ) : Type 0 where
  pub within : at < length text
  pub here : slice_index text at ≡ c
  pub first : All (λ b. b ≢ c) (take at text)

-- what stands before the first byte c, and what stands behind it
abbrev pub cut : ℕ → List ℕ → Option (List ℕ × List ℕ)
cut c [] = None
cut c (b ∷ bs) = if b == c then Some ([], bs) else option_map (λ p. (b ∷ p.0, p.1)) (cut c bs)

-- the same at the first slash
abbrev pub at_slash : List ℕ → Option (List ℕ × List ℕ)
at_slash text = cut 47 text

-- what stands behind this front, where the text begins with it
abbrev pub after : List ℕ → List ℕ → Option (List ℕ)
after [] text = Some text
after (p ∷ ps) [] = None
after (p ∷ ps) (b ∷ bs) = if b == p then after ps bs else None
