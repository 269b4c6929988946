-- Which fact a path names.
use Rattle.std.specs.Prelude.{◌≡◌, ℕ, zero, suc, ◌<◌, ◌≤◌, ◌&&◌, Bool, true, false, List, length, slice_get, bytes_eq, Option, Some, None, option_and_then}
use Rattle.fact_paths.specs.Paths.{SpellsFactPath}
use Rattle.fact_paths.specs.declared.fact_path.FactPath.{FactPath}
use Rattle.fact_paths.specs.declared.fact_path.FactPath.TheVariants.{Global, Member}
use Rattle.dict_source.specs.Facts.{Fact}
use Rattle.dict_source.specs.Dictionary.{number_from}

-- the fact with this number, from 1
abbrev pub fact_at : List Fact → ℕ → Option Fact
fact_at facts zero = None
fact_at facts (suc i) = slice_get facts i

-- a fact has this number
abbrev pub IsNumber : List Fact → ℕ → Type 0
IsNumber facts n = (1 ≤ n) × (n ≤ length facts)

-- the fact with this number has the path
pub record HasPath (facts : List Fact) (path : FactPath) (n : ℕ) : Type 0 where
  pub fact : Fact
  pub is_there : fact_at facts n ≡ Some fact
  pub path_is : fact.path ≡ Some path

-- and no fact before it has
pub record IsFirst (facts : List Fact) (path : FactPath) (n : ℕ) : Type 0 where
  pub here : HasPath facts path n
  pub before : (k : ℕ) → k < n → ¬ HasPath facts path k

-- the first fact with the path, and None where there is none
abbrev pub Finds : List Fact → FactPath → Option ℕ → Type 0
Finds facts path (Some n) = IsFirst facts path n
Finds facts path None = (n : ℕ) → ¬ HasPath facts path n

-- ---- the same as a function

abbrev pub same_path : FactPath → FactPath → Bool
same_path (Global n) (Global m) = bytes_eq n m
same_path (Global n) (Member c m) = false
same_path (Member b n) (Global m) = false
same_path (Member b n) (Member c m) = bytes_eq b c && bytes_eq n m

abbrev pub is_path : FactPath → Option FactPath → Bool
is_path path None = false
is_path path (Some other) = same_path path other

abbrev pub find_path : List Fact → FactPath → Option ℕ
find_path facts path = number_from (λ f. is_path path f.path) 1 facts

-- ---- global facts by the texts of their paths

-- the text spells the path `/N`, and the first fact with that path has this number
pub record IsGlobalSpelled (facts : List Fact) (text : List ℕ) (n : ℕ) : Type 0 where
  pub name : List ℕ
  pub spells : SpellsFactPath text (Global name)
  pub found : find_path facts (Global name) ≡ Some n

-- no fact has a path `/N` that the text spells
abbrev pub NoGlobalSpelled : List Fact → List ℕ → Type 0
NoGlobalSpelled facts text = (name : List ℕ) → SpellsFactPath text (Global name) → find_path facts (Global name) ≡ None

-- it is a path `/N`
abbrev pub is_global : Option FactPath → Bool
is_global None = false
is_global (Some (Global n)) = true
is_global (Some (Member c n)) = false

-- so is the path of the fact with this number
abbrev pub is_global_at : List Fact → ℕ → Bool
is_global_at facts n = is_global (option_and_then (λ f. f.path) (fact_at facts n))
