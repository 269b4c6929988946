-- The first fact of which a test holds.
use Rattle.std.specs.Prelude.{◌≡◌, ◌↔◌, ℕ, suc, ◌<◌, Bool, true, List, [], ◌∷◌, Option, Some, None, if◌then◌else◌}
use Rattle.dict_source.specs.Facts.{Fact}
use Rattle.dict_source.specs.Finding.{fact_at}

-- a test of a fact and its number
abbrev pub FactTest : Type 0
FactTest = ℕ → Fact → Bool

-- a fact has this number and passes
pub record Passes (test : FactTest) (facts : List Fact) (n : ℕ) : Type 0 where
  pub fact : Fact
  pub is_there : fact_at facts n ≡ Some fact
  pub passes : test n fact ≡ true

-- and no fact before it does
pub record IsFirstPassing (test : FactTest) (facts : List Fact) (n : ℕ) : Type 0 where
  pub here : Passes test facts n
  pub before : (k : ℕ) → k < n → ¬ Passes test facts k

-- ---- the same as a function

-- the number of the first fact that passes, where they are counted from n
abbrev pub first_passing : FactTest → ℕ → List Fact → Option ℕ
first_passing test n [] = None
first_passing test n (f ∷ fs) = if test n f then Some n else first_passing test (suc n) fs

-- ---- laws

abbrev pub FirstIsLeast : Type 0
FirstIsLeast = (test : FactTest) (facts : List Fact) (n : ℕ) → (first_passing test 1 facts ≡ Some n) ↔ IsFirstPassing test facts n

abbrev pub NonePasses : Type 0
NonePasses = (test : FactTest) (facts : List Fact) → (first_passing test 1 facts ≡ None) ↔ ((n : ℕ) → ¬ Passes test facts n)
