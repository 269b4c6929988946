-- The value of an expression without states, and a test that it is the expression's result. Both compute where the answers are symbols.
use Rattle.std.specs.Prelude.{◌≡◌, ℕ, Bool, true, false, ◌&&◌, ◌||◌, if◌then◌else◌, IsTrue, List, [], ◌∷◌, filter, Result, Ok, Err, is_ok}
use Rattle.std.specs.List.{list_all}
use Rattle.fact_values.specs.declared.fault.ValueFault.{ValueFault}
use Rattle.fact_values.specs.declared.value.Value.{Value}
use Rattle.fact_values.specs.declared.value.Value.TheVariants.{Boolean, Members, Item}
use Rattle.dict_source.specs.Tree.{Tree, literal, read, switch, many, one, two, pick, Trees, no_trees, tree, Cases, no_cases, a_case}
use Rattle.dict_source.specs.declared.operators.PickOp.{PickOp}
use Rattle.dict_source.specs.declared.operators.PickOp.TheVariants as pick_op
use Rattle.three_state.specs.declared.res.Res.{Res}
use Rattle.three_state.specs.declared.res.Res.TheVariants.{Complete, Incomplete}
use Rattle.three_state.specs.Results.{truth}
use Rattle.evaluation.specs.Operations.{many_value, one_value, two_value}
use Rattle.evaluation.specs.Over.{Env, over}

-- beside an environment, the values and the lists of members that are known in it
pub record KnownValues (C R P S : Type 0) : Type 0 where
  pub env : Env C R P S
  pub knows : S → R → Bool
  pub value : S → R → Value
  pub has_members : S → P → Bool
  pub members : S → P → List ℕ

-- what is known is so
pub record IsKnown {C R P S : Type 0} (k : KnownValues C R P S) : Type 0 where
  pub reads : (at : S) (r : R) → IsTrue (k.knows at r) → k.env.reads at r ≡ Complete (k.value at r)
  pub source : (at : S) (p : P) → IsTrue (k.has_members at p) → k.env.source at p ≡ Complete (Members (k.members at p))

-- ---- values

-- the value of an operation that has one
abbrev pub value_of : Result Value ValueFault → Value
value_of (Ok v) = v
value_of (Err fault) = Boolean false

abbrev pub first_member : List ℕ → ℕ
first_member [] = 0
first_member (m ∷ ms) = m

-- from the members at which the condition is true
abbrev pub picked : PickOp → List ℕ → Value
picked pick_op.Filter ms = Members ms
picked pick_op.Find ms = Item (first_member ms)

-- the value of an expression, as if everything were known
abbrev mutual
  pub worth : {C R P S : Type 0} → KnownValues C R P S → S → Tree C R P → Value
  worth k at (literal c) = k.env.constant c
  worth k at (read r) = k.value at r
  worth k at (switch cs) = worth_of_cases k at cs
  worth k at (many op ts) = value_of (many_value op (worth_of_all k at ts))
  worth k at (one op t) = value_of (one_value op (worth k at t))
  worth k at (two op a b) = value_of (two_value op (worth k at a) (worth k at b))
  worth k at (pick op p t) = picked op (filter (λ m. truth (worth k (k.env.enter at p m) t)) (k.members at p))

  pub worth_of_all : {C R P S : Type 0} → KnownValues C R P S → S → Trees C R P → List Value
  worth_of_all k at no_trees = []
  worth_of_all k at (tree t ts) = worth k at t ∷ worth_of_all k at ts

  pub worth_of_cases : {C R P S : Type 0} → KnownValues C R P S → S → Cases C R P → Value
  worth_of_cases k at no_cases = Boolean false
  worth_of_cases k at (a_case t o cs) = if truth (worth k at t) then worth k at o else worth_of_cases k at cs

-- ---- the test

abbrev pub has_pick : PickOp → List ℕ → Bool
has_pick pick_op.Filter ms = true
has_pick pick_op.Find [] = false
has_pick pick_op.Find (m ∷ ms) = true

-- everything that may be read is known, every operation has a value, and a case of each Switch is taken
abbrev mutual
  pub is_sure : {C R P S : Type 0} → KnownValues C R P S → S → Tree C R P → Bool
  is_sure k at (literal c) = true
  is_sure k at (read r) = k.knows at r
  is_sure k at (switch cs) = is_sure_of_cases k at cs
  is_sure k at (many op ts) = is_sure_of_all k at ts && is_ok (many_value op (worth_of_all k at ts))
  is_sure k at (one op t) = is_sure k at t && is_ok (one_value op (worth k at t))
  is_sure k at (two op a b) = is_sure k at a && (is_sure k at b && is_ok (two_value op (worth k at a) (worth k at b)))
  is_sure k at (pick op p t) =
      k.has_members at p
      && (list_all (λ m. is_sure k (k.env.enter at p m) t) (k.members at p) && has_pick op (filter (λ m. truth (worth k (k.env.enter at p m) t)) (k.members at p)))

  pub is_sure_of_all : {C R P S : Type 0} → KnownValues C R P S → S → Trees C R P → Bool
  is_sure_of_all k at no_trees = true
  is_sure_of_all k at (tree t ts) = is_sure k at t && is_sure_of_all k at ts

  -- the truth of a condition stands last, so that the test computes where it is a symbol
  pub is_sure_of_cases : {C R P S : Type 0} → KnownValues C R P S → S → Cases C R P → Bool
  is_sure_of_cases k at no_cases = false
  is_sure_of_cases k at (a_case t o cs) = is_sure k at t && (is_sure k at o && (is_sure_of_cases k at cs || truth (worth k at t)))

-- ---- laws

abbrev pub Sureness : (C R P S : Type 0) → Type 0
Sureness C R P S =
    (k : KnownValues C R P S) → IsKnown k → (t : Tree C R P) (at : S) → IsTrue (is_sure k at t)
    → over k.env at t ≡ Complete (worth k at t)

-- what a Find gives where its list and its condition at each member are known
abbrev pub first_found : List ℕ → Res
first_found [] = Incomplete
first_found (m ∷ ms) = Complete (Item m)

abbrev pub SureFind : (C R P S : Type 0) → Type 0
SureFind C R P S =
    (k : KnownValues C R P S) → IsKnown k → (p : P) (t : Tree C R P) (at : S)
    → IsTrue (k.has_members at p) → IsTrue (list_all (λ m. is_sure k (k.env.enter at p m) t) (k.members at p))
    → over k.env at (pick pick_op.Find p t) ≡ first_found (filter (λ m. truth (worth k (k.env.enter at p m) t)) (k.members at p))
