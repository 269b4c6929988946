-- Laws of a relation between texts and what they spell.
use Rattle.std.specs.Prelude.{◌≡◌, ℕ, List}

-- a text spells one path at most
abbrev pub OnePathOfText : {P : Type 0} → (List ℕ → P → Type 0) → Type 0
OnePathOfText {P = P} spells = (text : List ℕ) (p q : P) → spells text p → spells text q → p ≡ q

-- a path is spelled by one text at most
abbrev pub OneTextOfPath : {P : Type 0} → (List ℕ → P → Type 0) → Type 0
OneTextOfPath {P = P} spells = (s t : List ℕ) (path : P) → spells s path → spells t path → s ≡ t

-- a path of this form is spelled by its text
abbrev pub TextOfPath : {P : Type 0} → (List ℕ → P → Type 0) → (P → Type 0) → (P → List ℕ) → Type 0
TextOfPath {P = P} spells form text = (path : P) → form path → spells (text path) path
