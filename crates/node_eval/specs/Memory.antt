-- Where an evaluation takes memory: at a text or a list of members that a node gives, at a look-up in a table of texts, and at a
-- Filter.
use Rattle.std.specs.Prelude.{ℕ, Bool, true, false, List, [], ◌∷◌, ◌⊎◌}
use Rattle.fact_values.specs.Values.{HoldsMemory}
use Rattle.dict_source.specs.Tree.{Tree, literal, read, switch, many, one, two, pick, Trees, no_trees, tree, Cases, no_cases, a_case}
use Rattle.dict_source.specs.declared.operators.PickOp.{PickOp}
use Rattle.dict_source.specs.declared.operators.PickOp.TheVariants as pick_op
use Rattle.three_state.specs.Results.{ValueHoldsMemory, members_of, truth}
use Rattle.three_state.specs.declared.res.Res.{Res}
use Rattle.three_state.specs.declared.res.Res.TheVariants.{Complete, Placeholder, Incomplete, Fault}
use Rattle.evaluation.specs.Operations.{GivesText}
use Rattle.evaluation.specs.Over.{Env, over}
use Rattle.evaluation.specs.SlotsRead.{up_to_decider}

-- it holds of one of the list
abbrev pub SomeOf : {X : Type 0} → (X → Type 0) → List X → Type 0
SomeOf M [] = ⊥
SomeOf M (x ∷ xs) = M x ⊎ SomeOf M xs

abbrev pub Chosen : Bool → Type 0 → Type 0 → Type 0
Chosen true Given Rest = Given
Chosen false Given Rest = Rest

-- after a condition: what holds of its case where it is true, and of the cases after it where it is false
abbrev pub AfterCondition : Res → Type 0 → Type 0 → Type 0
AfterCondition (Complete v) Given Rest = Chosen (truth v) Given Rest
AfterCondition (Placeholder v) Given Rest = Chosen (truth v) Given Rest
AfterCondition Incomplete Given Rest = ⊥
AfterCondition (Fault fault) Given Rest = ⊥

-- of the condition at each member
abbrev pub PickTakes : PickOp → (ℕ → Res) → (ℕ → Type 0) → List ℕ → Type 0
PickTakes pick_op.Filter condition Takes ms = Unit {0}
PickTakes pick_op.Find condition Takes ms = SomeOf Takes (up_to_decider condition ms)

-- the evaluation visits a node that takes memory
abbrev mutual
  pub TakesMemory : {C R P S : Type 0} → Env C R P S → S → Tree C R P → Type 0
  TakesMemory env at (literal c) = HoldsMemory (env.constant c)
  TakesMemory env at (read r) = ValueHoldsMemory (env.reads at r)
  TakesMemory env at (switch cs) = TakesInCases env at cs
  TakesMemory env at (many op ts) = TakesInAll env at ts
  TakesMemory env at (one op t) = TakesMemory env at t ⊎ GivesText op
  TakesMemory env at (two op a b) = TakesMemory env at a ⊎ TakesMemory env at b
  TakesMemory env at (pick op p t) = PickTakes op (λ m. over env (env.enter at p m) t) (λ m. TakesMemory env (env.enter at p m) t) (members_of (env.source at p))

  pub TakesInAll : {C R P S : Type 0} → Env C R P S → S → Trees C R P → Type 0
  TakesInAll env at no_trees = ⊥
  TakesInAll env at (tree t ts) = TakesMemory env at t ⊎ TakesInAll env at ts

  pub TakesInCases : {C R P S : Type 0} → Env C R P S → S → Cases C R P → Type 0
  TakesInCases env at no_cases = ⊥
  TakesInCases env at (a_case t o cs) = TakesMemory env at t ⊎ AfterCondition (over env at t) (TakesMemory env at o) (TakesInCases env at cs)
