-- Which type an expression has: one rule for each kind of node.
use Rattle.std.specs.Prelude.{◌≡◌, ℕ, Bool, IsTrue, List, [], ◌∷◌, Option, Some}
use Rattle.fact_values.specs.declared.fact_type.FactType.{FactType}
use Rattle.fact_values.specs.declared.fact_type.FactType.TheVariants.{Boolean, Int, Dollar, Collection}
use Rattle.dict_source.specs.declared.operators.ReadOp.{ReadOp}
use Rattle.dict_source.specs.declared.operators.ReadOp.TheVariants as read_op
use Rattle.dict_source.specs.OperandTypes.{is_ordered, many_type, one_type, pick_type, two_type}
use Rattle.dict_source.specs.Tables.{LookupTable}
use Rattle.dict_source.specs.Tree.{Tree, literal, read, switch, many, one, two, pick, Trees, no_trees, tree, Cases, no_cases, a_case}

-- ---- kinds of types

-- a CollectionSum adds them up
abbrev pub IsSummed : FactType → Type 0
IsSummed Int = Unit {0}
IsSummed Dollar = Unit {0}
IsSummed _ = ⊥

-- their values have an order
abbrev pub IsOrdered : FactType → Type 0
IsOrdered t = IsTrue (is_ordered t)

abbrev pub IsCollection : FactType → Type 0
IsCollection (Collection c) = Unit {0}
IsCollection _ = ⊥

-- ---- the type of a node that reads a path

-- from the type of the last fact that the node's path names
abbrev pub ReadType : ReadOp → FactType → FactType → Type 0
ReadType read_op.Dependency u t = t ≡ u
ReadType read_op.IsComplete u t = t ≡ Boolean
ReadType read_op.CollectionSize u t = IsCollection u × (t ≡ Int)
ReadType read_op.CollectionSum u t = IsSummed u × (t ≡ u)
ReadType read_op.Count u t = (u ≡ Boolean) × (t ≡ Int)

-- ---- expressions

-- The types of what an expression is made of, each None where it has none. A base is that of the innermost condition: the
-- number of a collection's fact, and 0 outside of all conditions.
pub record Types (C R P : Type 0) : Type 0 where
  pub constant : C → Option FactType
  -- of a read, under a base
  pub reads : ℕ → R → Option FactType
  -- the base of a collection, which itself stands under a base
  pub source : ℕ → P → Option ℕ
  -- whether each value of a table is one of its type
  pub fits : LookupTable → Bool

abbrev pub IsSomeCase : {C R P : Type 0} → Cases C R P → Type 0
IsSomeCase no_cases = ⊥
IsSomeCase (a_case t o cs) = Unit {0}

abbrev mutual
  -- the expression, under a base, has this type
  pub HasType : {C R P : Type 0} → Types C R P → ℕ → Tree C R P → FactType → Type 0
  HasType ty b (literal c) t = ty.constant c ≡ Some t
  HasType ty b (read r) t = ty.reads b r ≡ Some t
  HasType ty b (switch cs) t = IsSomeCase cs × HaveCaseTypes ty b cs t
  HasType ty b (many op ts) t = (us : List FactType) × HaveTypes ty b ts us × (many_type op us ≡ Some t)
  HasType ty b (one op x) t = (u : FactType) × HasType ty b x u × (one_type ty.fits op u ≡ Some t)
  HasType ty b (two op x y) t = (u v : FactType) × HasType ty b x u × HasType ty b y v × (two_type op u v ≡ Some t)
  HasType ty b (pick op p x) t = (c : ℕ) × (ty.source b p ≡ Some c) × HasType ty c x Boolean × (t ≡ pick_type op c)

  -- the operands have these types
  pub HaveTypes : {C R P : Type 0} → Types C R P → ℕ → Trees C R P → List FactType → Type 0
  HaveTypes ty b no_trees [] = Unit {0}
  HaveTypes ty b (tree x xs) (u ∷ us) = HasType ty b x u × HaveTypes ty b xs us
  HaveTypes ty b _ _ = ⊥

  -- the conditions are Boolean, and what the cases give has this type
  pub HaveCaseTypes : {C R P : Type 0} → Types C R P → ℕ → Cases C R P → FactType → Type 0
  HaveCaseTypes ty b no_cases t = Unit {0}
  HaveCaseTypes ty b (a_case x o cs) t = HasType ty b x Boolean × HasType ty b o t × HaveCaseTypes ty b cs t
