-- The result of an expression, and how much work it is.
use Rattle.std.specs.Prelude.{ℕ, suc, ◌+◌, List, [], ◌∷◌, sum_by}
use Rattle.fact_values.specs.declared.value.Value.{Value}
use Rattle.dict_source.specs.Tree.{Tree, literal, read, switch, many, one, two, pick, Trees, no_trees, tree, Cases, no_cases, a_case}
use Rattle.dict_source.specs.declared.operators.ManyOp.{ManyOp}
use Rattle.dict_source.specs.declared.operators.ManyOp.TheVariants as many_op
use Rattle.dict_source.specs.declared.operators.OneOp.{OneOp}
use Rattle.dict_source.specs.declared.operators.TwoOp.{TwoOp}
use Rattle.dict_source.specs.declared.operators.PickOp.{PickOp}
use Rattle.dict_source.specs.declared.operators.PickOp.TheVariants as pick_op
use Rattle.three_state.specs.declared.res.Res.{Res}
use Rattle.three_state.specs.declared.res.Res.TheVariants.{Complete}
use Rattle.three_state.specs.Results.{all_of, any_of, filter_of, find_of, members_of, strict, switch_of}
use Rattle.evaluation.specs.Operations.{many_value, on_one, on_two, one_value, two_value}

-- what an expression stands in: its constants of type C, what it reads by R, its collections by P, from places of type S
pub record Env (C R P S : Type 0) : Type 0 where
  pub constant : C → Value
  pub reads : S → R → Res
  -- the collection of a Filter or a Find
  pub source : S → P → Res
  -- the place of a member under its condition
  pub enter : S → P → ℕ → S

-- ---- the nodes

abbrev pub many_of : ManyOp → List Res → Res
many_of many_op.All rs = all_of rs
many_of many_op.Any rs = any_of rs
many_of op rs = strict (many_value op) rs

abbrev pub one_of : OneOp → Res → Res
one_of op r = strict (on_one (one_value op)) (r ∷ [])

abbrev pub two_of : TwoOp → Res → Res → Res
two_of op a b = strict (on_two (two_value op)) (a ∷ b ∷ [])

abbrev pub pick_of : PickOp → Res → (ℕ → Res) → Res
pick_of pick_op.Filter source condition = filter_of source condition
pick_of pick_op.Find source condition = find_of source condition

-- ---- expressions

-- the result of an expression at a place
abbrev mutual
  pub over : {C R P S : Type 0} → Env C R P S → S → Tree C R P → Res
  over env at (literal c) = Complete (env.constant c)
  over env at (read r) = env.reads at r
  over env at (switch cs) = switch_of (over_cases env at cs)
  over env at (many op ts) = many_of op (over_all env at ts)
  over env at (one op t) = one_of op (over env at t)
  over env at (two op a b) = two_of op (over env at a) (over env at b)
  over env at (pick op p t) = pick_of op (env.source at p) (λ m. over env (env.enter at p m) t)

  pub over_all : {C R P S : Type 0} → Env C R P S → S → Trees C R P → List Res
  over_all env at no_trees = []
  over_all env at (tree t ts) = over env at t ∷ over_all env at ts

  pub over_cases : {C R P S : Type 0} → Env C R P S → S → Cases C R P → List (Res × Res)
  over_cases env at no_cases = []
  over_cases env at (a_case t o cs) = (over env at t, over env at o) ∷ over_cases env at cs

-- the number of nodes that an evaluation visits at most
abbrev mutual
  pub weight : {C R P S : Type 0} → Env C R P S → S → Tree C R P → ℕ
  weight env at (literal c) = 1
  weight env at (read r) = 1
  weight env at (switch cs) = suc (weight_of_cases env at cs)
  weight env at (many op ts) = suc (weight_of_all env at ts)
  weight env at (one op t) = suc (weight env at t)
  weight env at (two op a b) = suc (weight env at a + weight env at b)
  weight env at (pick op p t) = suc (sum_by (λ m. weight env (env.enter at p m) t) (members_of (env.source at p)))

  pub weight_of_all : {C R P S : Type 0} → Env C R P S → S → Trees C R P → ℕ
  weight_of_all env at no_trees = 0
  weight_of_all env at (tree t ts) = weight env at t + weight_of_all env at ts

  pub weight_of_cases : {C R P S : Type 0} → Env C R P S → S → Cases C R P → ℕ
  weight_of_cases env at no_cases = 0
  weight_of_cases env at (a_case t o cs) = weight env at t + (weight env at o + weight_of_cases env at cs)
