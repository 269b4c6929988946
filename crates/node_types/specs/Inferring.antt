-- Types from below, with the number of the first node at fault. A node's number is counted in preorder.
use Rattle.std.specs.Prelude.{◌≡◌, ℕ, ◌+◌, List, [], ◌∷◌, Option, Some, None, Result, Ok, Err, unwrap_or}
use Rattle.fact_values.specs.declared.fact_type.FactType.{FactType}
use Rattle.dict_source.specs.OperandTypes.{many_type, one_type, two_type}
use Rattle.dict_source.specs.Tree.{Tree, literal, read, switch, many, one, two, pick, Trees, no_trees, tree, Cases, no_cases, a_case, size}
use Rattle.dict_source.specs.Typing.{Types}
use Rattle.node_types.specs.declared.node_fault.NodeFault.{NodeFault}
use Rattle.node_types.specs.declared.node_fault.NodeFault.TheVariants as faults
use Rattle.node_types.specs.declared.operand_types.CaseType.{CaseType}
use Rattle.node_types.specs.CaseTypes.{picked_type, switch_type}

infixl 10 ◌>>=◌
-- what follows a result; the first fault stays
abbrev pub ◌>>=◌ : {A B E : Type 0} → Result A E → (A → Result B E) → Result B E
(Ok x) >>= f = f x
(Err e) >>= f = Err e

-- the answer is what inferring gives; want of memory says nothing
abbrev pub Infers : {X Y : Type 0} → (X → Y) → Result X NodeFault → Result Y ℕ → Type 0
Infers view (Ok x) inferred = inferred ≡ Ok (view x)
Infers view (Err (faults.IllTyped n)) inferred = inferred ≡ Err n
Infers view (Err faults.NoMemory) inferred = Unit {0}

-- a node without a type is at fault
abbrev pub or_fault : ℕ → Option FactType → Result FactType ℕ
or_fault n None = Err n
or_fault n (Some t) = Ok t

abbrev mutual
  -- of an expression whose first node has the number n, under a base
  pub type_of : {C R P : Type 0} → Types C R P → ℕ → ℕ → Tree C R P → Result FactType ℕ
  type_of ty n b (literal c) = or_fault n (ty.constant c)
  type_of ty n b (read r) = or_fault n (ty.reads b r)
  type_of ty n b (switch cs) = case_types ty (n + 1) b cs >>= λ us. or_fault n (switch_type us)
  type_of ty n b (many op ts) = types_of ty (n + 1) b ts >>= λ us. or_fault n (many_type op us)
  type_of ty n b (one op t) = type_of ty (n + 1) b t >>= λ u. or_fault n (one_type ty.fits op u)
  type_of ty n b (two op x y) = type_of ty (n + 1) b x >>= λ u. type_of ty (n + 1 + size x) b y >>= λ v. or_fault n (two_type op u v)
  type_of ty n b (pick op p t) = type_of ty (n + 1) (unwrap_or (ty.source b p) 0) t >>= λ u. or_fault n (picked_type op (ty.source b p) u)

  pub types_of : {C R P : Type 0} → Types C R P → ℕ → ℕ → Trees C R P → Result (List FactType) ℕ
  types_of ty n b no_trees = Ok []
  types_of ty n b (tree t ts) = type_of ty n b t >>= λ u. types_of ty (n + size t) b ts >>= λ us. Ok (u ∷ us)

  pub case_types : {C R P : Type 0} → Types C R P → ℕ → ℕ → Cases C R P → Result (List CaseType) ℕ
  case_types ty n b no_cases = Ok []
  case_types ty n b (a_case t o cs) = type_of ty n b t >>= λ u. type_of ty (n + size t) b o >>= λ v. case_types ty (n + size t + size o) b cs >>= λ us. Ok (record { test = u; outcome = v } ∷ us)
