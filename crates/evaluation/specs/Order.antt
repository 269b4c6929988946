-- When an environment keeps what is complete in another, for an expression at its place.
use Rattle.std.specs.Prelude.{◌≡◌, ℕ, Bool, true, false, ◌&&◌, IsTrue}
use Rattle.fact_values.specs.declared.value.Value.{Value}
use Rattle.dict_source.specs.declared.operators.ReadOp.{ReadOp}
use Rattle.dict_source.specs.declared.operators.ReadOp.TheVariants as read_op
use Rattle.dict_source.specs.Tree.{Source, Tree, literal, read, switch, many, one, two, pick, Trees, no_trees, tree, Cases, no_cases, a_case}
use Rattle.three_state.specs.declared.res.Res.TheVariants.{Complete}
use Rattle.three_state.specs.Order.{Keeps}
use Rattle.evaluation.specs.Over.{Env, over}

abbrev mutual
  pub KeepsReads : {C R P S : Type 0} → Env C R P S → Env C R P S → S → Tree C R P → Type 0
  KeepsReads e f at (literal c) = e.constant c ≡ f.constant c
  KeepsReads e f at (read r) = Keeps (e.reads at r) (f.reads at r)
  KeepsReads e f at (switch cs) = KeepsReadsInCases e f at cs
  KeepsReads e f at (many op ts) = KeepsReadsInAll e f at ts
  KeepsReads e f at (one op t) = KeepsReads e f at t
  KeepsReads e f at (two op a b) = KeepsReads e f at a × KeepsReads e f at b
  KeepsReads e f at (pick op p t) =
      Keeps (e.source at p) (f.source at p) × ((m : ℕ) → (e.enter at p m ≡ f.enter at p m) × KeepsReads e f (e.enter at p m) t)

  pub KeepsReadsInAll : {C R P S : Type 0} → Env C R P S → Env C R P S → S → Trees C R P → Type 0
  KeepsReadsInAll e f at no_trees = Unit {0}
  KeepsReadsInAll e f at (tree t ts) = KeepsReads e f at t × KeepsReadsInAll e f at ts

  pub KeepsReadsInCases : {C R P S : Type 0} → Env C R P S → Env C R P S → S → Cases C R P → Type 0
  KeepsReadsInCases e f at no_cases = Unit {0}
  KeepsReadsInCases e f at (a_case t o cs) = KeepsReads e f at t × KeepsReads e f at o × KeepsReadsInCases e f at cs

-- each read passes the test
abbrev mutual
  pub reads_pass : {C R P : Type 0} → (R → Bool) → Tree C R P → Bool
  reads_pass test (literal c) = true
  reads_pass test (read r) = test r
  reads_pass test (switch cs) = reads_pass_in_cases test cs
  reads_pass test (many op ts) = reads_pass_in_all test ts
  reads_pass test (one op t) = reads_pass test t
  reads_pass test (two op a b) = reads_pass test a && reads_pass test b
  reads_pass test (pick op p t) = reads_pass test t

  pub reads_pass_in_all : {C R P : Type 0} → (R → Bool) → Trees C R P → Bool
  reads_pass_in_all test no_trees = true
  reads_pass_in_all test (tree t ts) = reads_pass test t && reads_pass_in_all test ts

  pub reads_pass_in_cases : {C R P : Type 0} → (R → Bool) → Cases C R P → Bool
  reads_pass_in_cases test no_cases = true
  reads_pass_in_cases test (a_case t o cs) = reads_pass test t && (reads_pass test o && reads_pass_in_cases test cs)

-- for an expression without IsComplete: whether the read gives a value of facts, and doesn't ask whether there is one
abbrev pub is_value_read : ReadOp → Bool
is_value_read read_op.Dependency = true
is_value_read read_op.IsComplete = false
is_value_read read_op.CollectionSize = true
is_value_read read_op.CollectionSum = true
is_value_read read_op.Count = true

abbrev pub has_no_complete_test : Source → Bool
has_no_complete_test t = reads_pass (λ r. is_value_read r.0) t

-- the second environment keeps each read that passes the test, and each collection
pub record KeepsTested {C R P S : Type 0} (test : R → Bool) (e f : Env C R P S) : Type 0 where
  pub constant : (c : C) → e.constant c ≡ f.constant c
  pub reads : (at : S) (r : R) → IsTrue (test r) → Keeps (e.reads at r) (f.reads at r)
  pub source : (at : S) (p : P) → Keeps (e.source at p) (f.source at p)
  pub enter : (at : S) (p : P) (m : ℕ) → e.enter at p m ≡ f.enter at p m

-- ---- laws

-- at its place
abbrev pub CompleteStays : (C R P S : Type 0) → Type 0
CompleteStays C R P S =
    (e f : Env C R P S) (t : Tree C R P) (at : S) → KeepsReads e f at t → (v : Value)
    → over e at t ≡ Complete v → over f at t ≡ Complete v

-- at every place: where the test is that a read isn't IsComplete, of an expression without IsComplete
abbrev pub CompleteStaysTested : (C R P S : Type 0) → Type 0
CompleteStaysTested C R P S =
    (test : R → Bool) (e f : Env C R P S) → KeepsTested test e f
    → (t : Tree C R P) → IsTrue (reads_pass test t) → (at : S) (v : Value)
    → over e at t ≡ Complete v → over f at t ≡ Complete v
