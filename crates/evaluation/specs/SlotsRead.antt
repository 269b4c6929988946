-- What an evaluation reads: the law at the end says that nothing else matters.
use Rattle.std.specs.Prelude.{◌≡◌, ℕ, Bool, IsTrue, if◌then◌else◌, List, [], ◌∷◌, ◌++◌, flat_map}
use Rattle.std.specs.List.{list_all}
use Rattle.fact_values.specs.declared.value.Value.{Value}
use Rattle.fact_values.specs.declared.value.Value.TheVariants.{Item}
use Rattle.dict_source.specs.Tree.{Tree, literal, read, switch, many, one, two, pick, Trees, no_trees, tree, Cases, no_cases, a_case}
use Rattle.dict_source.specs.declared.operators.PickOp.{PickOp}
use Rattle.dict_source.specs.declared.operators.PickOp.TheVariants as pick_op
use Rattle.three_state.specs.declared.res.Res.{Res}
use Rattle.three_state.specs.declared.res.Res.TheVariants.{Complete, Placeholder, Incomplete, Fault}
use Rattle.three_state.specs.Results.{members_of, truth}
use Rattle.evaluation.specs.Over.{Env, over}

-- what a node that reads, and the collection of a Filter or a Find, reads at a place
pub record ReadBy (R P S X : Type 0) : Type 0 where
  pub reads : S → R → List X
  pub source : S → P → List X

-- after a condition: what its case reads where it is true, and what the cases after it read where it is false
abbrev pub after_condition : {X : Type 0} → Res → List X → List X → List X
after_condition (Complete v) given rest = if truth v then given else rest
after_condition (Placeholder v) given rest = if truth v then given else rest
after_condition Incomplete given rest = []
after_condition (Fault fault) given rest = []

-- a Find looks at the members up to the one that decides
abbrev pub up_to_decider : (ℕ → Res) → List ℕ → List ℕ
up_to_decider condition [] = []
up_to_decider condition (m ∷ ms) = m ∷ after_condition (condition m) [] (up_to_decider condition ms)

-- the members at which the condition is evaluated
abbrev pub members_visited : PickOp → (ℕ → Res) → Res → List ℕ
members_visited pick_op.Filter condition source = members_of source
members_visited pick_op.Find condition source = up_to_decider condition (members_of source)

-- what the evaluation of an expression reads at a place, in order
abbrev mutual
  pub slots_read : {C R P S X : Type 0} → Env C R P S → ReadBy R P S X → S → Tree C R P → List X
  slots_read env by at (literal c) = []
  slots_read env by at (read r) = by.reads at r
  slots_read env by at (switch cs) = slots_read_of_cases env by at cs
  slots_read env by at (many op ts) = slots_read_of_all env by at ts
  slots_read env by at (one op t) = slots_read env by at t
  slots_read env by at (two op a b) = slots_read env by at a ++ slots_read env by at b
  slots_read env by at (pick op p t) =
      by.source at p ++ flat_map (λ m. slots_read env by (env.enter at p m) t) (members_visited op (λ m. over env (env.enter at p m) t) (env.source at p))

  pub slots_read_of_all : {C R P S X : Type 0} → Env C R P S → ReadBy R P S X → S → Trees C R P → List X
  slots_read_of_all env by at no_trees = []
  slots_read_of_all env by at (tree t ts) = slots_read env by at t ++ slots_read_of_all env by at ts

  pub slots_read_of_cases : {C R P S X : Type 0} → Env C R P S → ReadBy R P S X → S → Cases C R P → List X
  slots_read_of_cases env by at no_cases = []
  slots_read_of_cases env by at (a_case t o cs) = slots_read env by at t ++ after_condition (over env at t) (slots_read env by at o) (slots_read_of_cases env by at cs)

-- ---- the words of nodes that read

-- CollectionSum and Count: what reading the collection reads, and what the field of each listed member does
abbrev pub fields_read : {X : Type 0} → Res → List X → (ℕ → List X) → List X
fields_read source by_source by_field = by_source ++ flat_map by_field (members_of source)

-- the member that an Item names
abbrev pub member_named : Value → List ℕ
member_named (Item m) = m ∷ []
member_named _ = []

abbrev pub member_read : Res → List ℕ
member_read (Complete v) = member_named v
member_read (Placeholder v) = member_named v
member_read _ = []

-- Dependency and IsComplete through an Item: what reading the item reads, and what the field of the member that it names does
abbrev pub item_read : {X : Type 0} → Res → List X → (ℕ → List X) → List X
item_read item by_item by_field = by_item ++ flat_map by_field (member_read item)

-- ---- a law

-- Two environments, and a test of what is read: where all that a node reads passes, they answer it alike.
pub record AnswerAlike {C R P S X : Type 0} (by : ReadBy R P S X) (test : X → Bool) (e f : Env C R P S) : Type 0 where
  pub constant : (c : C) → e.constant c ≡ f.constant c
  pub enter : (at : S) (p : P) (m : ℕ) → e.enter at p m ≡ f.enter at p m
  pub reads : (at : S) (r : R) → IsTrue (list_all test (by.reads at r)) → e.reads at r ≡ f.reads at r
  pub source : (at : S) (p : P) → IsTrue (list_all test (by.source at p)) → e.source at p ≡ f.source at p

-- what is read decides the result
abbrev pub ReadsDecide : (C R P S X : Type 0) → Type 0
ReadsDecide C R P S X =
    (by : ReadBy R P S X) (test : X → Bool) (e f : Env C R P S) → AnswerAlike by test e f
    → (t : Tree C R P) (at : S) → IsTrue (list_all test (slots_read e by at t)) → over e at t ≡ over f at t
