-- When two environments agree on all that an expression can read from its place.
use Rattle.std.specs.Prelude.{◌≡◌, ℕ, IsTrue, nat_eq, List}
use Rattle.std.specs.List.{list_any}
use Rattle.dict_source.specs.Tree.{Tree, literal, read, switch, many, one, two, pick, Trees, no_trees, tree, Cases, no_cases, a_case}
use Rattle.three_state.specs.Results.{members_of}
use Rattle.evaluation.specs.Over.{Env, over, weight}

-- the member stands in the list
abbrev pub IsIn : List ℕ → ℕ → Type 0
IsIn ms m = IsTrue (list_any (nat_eq m) ms)

abbrev mutual
  pub Agree : {C R P S : Type 0} → Env C R P S → Env C R P S → S → Tree C R P → Type 0
  Agree e f at (literal c) = e.constant c ≡ f.constant c
  Agree e f at (read r) = e.reads at r ≡ f.reads at r
  Agree e f at (switch cs) = AgreeInCases e f at cs
  Agree e f at (many op ts) = AgreeInAll e f at ts
  Agree e f at (one op t) = Agree e f at t
  Agree e f at (two op a b) = Agree e f at a × Agree e f at b
  -- under the condition, at each member that is listed
  Agree e f at (pick op p t) =
      (e.source at p ≡ f.source at p)
      × ((m : ℕ) → IsIn (members_of (e.source at p)) m → (e.enter at p m ≡ f.enter at p m) × Agree e f (e.enter at p m) t)

  pub AgreeInAll : {C R P S : Type 0} → Env C R P S → Env C R P S → S → Trees C R P → Type 0
  AgreeInAll e f at no_trees = Unit {0}
  AgreeInAll e f at (tree t ts) = Agree e f at t × AgreeInAll e f at ts

  pub AgreeInCases : {C R P S : Type 0} → Env C R P S → Env C R P S → S → Cases C R P → Type 0
  AgreeInCases e f at no_cases = Unit {0}
  AgreeInCases e f at (a_case t o cs) = Agree e f at t × Agree e f at o × AgreeInCases e f at cs

-- ---- laws

abbrev pub Coincidence : (C R P S : Type 0) → Type 0
Coincidence C R P S = (e f : Env C R P S) (t : Tree C R P) (at : S) → Agree e f at t → over e at t ≡ over f at t

abbrev pub WeightCoincidence : (C R P S : Type 0) → Type 0
WeightCoincidence C R P S = (e f : Env C R P S) (t : Tree C R P) (at : S) → Agree e f at t → weight e at t ≡ weight f at t
