-- Which node is at fault, and laws of inferring.
use Rattle.std.specs.Prelude.{◌≡◌, ℕ, zero, suc, ◌+◌, List, [], ◌∷◌, ◌++◌, Ok, Err, unwrap_or}
use Rattle.fact_values.specs.declared.fact_type.FactType.{FactType}
use Rattle.dict_source.specs.Tree.{Tree, literal, read, switch, many, one, two, pick, Trees, no_trees, tree, Cases, no_cases, a_case, Literal, Reading, Use}
use Rattle.dict_source.specs.Typing.{Types, HasType}
use Rattle.node_types.specs.Inferring.{type_of}

-- the base of the condition under a node that picks members: 0 where it isn't known
abbrev pub inner_base : {C R P : Type 0} → Types C R P → ℕ → P → ℕ
inner_base ty b p = unwrap_or (ty.source b p) 0

abbrev pub IsTyped : {C R P : Type 0} → Types C R P → ℕ → Tree C R P → Type 0
IsTyped ty b t = (u : FactType) × HasType ty b t u

abbrev pub AreTyped : {C R P : Type 0} → Types C R P → ℕ → Trees C R P → Type 0
AreTyped ty b no_trees = Unit {0}
AreTyped ty b (tree t ts) = IsTyped ty b t × AreTyped ty b ts

abbrev pub CasesTyped : {C R P : Type 0} → Types C R P → ℕ → Cases C R P → Type 0
CasesTyped ty b no_cases = Unit {0}
CasesTyped ty b (a_case t o cs) = IsTyped ty b t × IsTyped ty b o × CasesTyped ty b cs

-- each sub-expression has a type
abbrev pub OperandsTyped : {C R P : Type 0} → Types C R P → ℕ → Tree C R P → Type 0
OperandsTyped ty b (literal c) = Unit {0}
OperandsTyped ty b (read r) = Unit {0}
OperandsTyped ty b (switch cs) = CasesTyped ty b cs
OperandsTyped ty b (many op ts) = AreTyped ty b ts
OperandsTyped ty b (one op t) = IsTyped ty b t
OperandsTyped ty b (two op x y) = IsTyped ty b x × IsTyped ty b y
OperandsTyped ty b (pick op p t) = IsTyped ty (inner_base ty b p) t

-- a node with the base that it stands under
abbrev pub Placed : (C R P : Type 0) → Type 0
Placed C R P = ℕ × Tree C R P

-- each sub-expression has a type, and the node has none
abbrev pub IsAtFault : {C R P : Type 0} → Types C R P → Placed C R P → Type 0
IsAtFault ty n = OperandsTyped ty n.0 n.1 × ¬ IsTyped ty n.0 n.1

-- the nodes in preorder
abbrev mutual
  pub placed : {C R P : Type 0} → Types C R P → ℕ → Tree C R P → List (Placed C R P)
  placed ty b (literal c) = (b, literal c) ∷ []
  placed ty b (read r) = (b, read r) ∷ []
  placed ty b (switch cs) = (b, switch cs) ∷ placed_cases ty b cs
  placed ty b (many op ts) = (b, many op ts) ∷ placed_trees ty b ts
  placed ty b (one op t) = (b, one op t) ∷ placed ty b t
  placed ty b (two op x y) = (b, two op x y) ∷ (placed ty b x ++ placed ty b y)
  placed ty b (pick op p t) = (b, pick op p t) ∷ placed ty (inner_base ty b p) t

  pub placed_trees : {C R P : Type 0} → Types C R P → ℕ → Trees C R P → List (Placed C R P)
  placed_trees ty b no_trees = []
  placed_trees ty b (tree t ts) = placed ty b t ++ placed_trees ty b ts

  pub placed_cases : {C R P : Type 0} → Types C R P → ℕ → Cases C R P → List (Placed C R P)
  placed_cases ty b no_cases = []
  placed_cases ty b (a_case t o cs) = placed ty b t ++ (placed ty b o ++ placed_cases ty b cs)

-- the first of the list, from 0, of which this is so
abbrev pub FirstIn : {X : Type 0} → (X → Type 0) → List X → ℕ → Type 0
FirstIn P [] i = ⊥
FirstIn P (x ∷ xs) zero = P x
FirstIn P (x ∷ xs) (suc i) = ¬ P x × FirstIn P xs i

-- ---- laws of the trees of sources

abbrev pub SourceTypes : Type 0
SourceTypes = Types Literal Reading Use

abbrev pub SourceTree : Type 0
SourceTree = Tree Literal Reading Use

-- the type that is inferred is one that the rules give, and each that they give is inferred
abbrev pub InferredIsHad : Type 0
InferredIsHad = (ty : SourceTypes) (n b : ℕ) (t : SourceTree) (u : FactType) → type_of ty n b t ≡ Ok u → HasType ty b t u

abbrev pub HadIsInferred : Type 0
HadIsInferred = (ty : SourceTypes) (n b : ℕ) (t : SourceTree) (u : FactType) → HasType ty b t u → type_of ty n b t ≡ Ok u

-- an expression has at most one type
abbrev pub OneTypeAtMost : Type 0
OneTypeAtMost = (ty : SourceTypes) (b : ℕ) (t : SourceTree) (u v : FactType) → HasType ty b t u → HasType ty b t v → u ≡ v

-- where nothing is inferred, the first node at fault is named
abbrev pub FirstFaultIsNamed : Type 0
FirstFaultIsNamed = (ty : SourceTypes) (n b : ℕ) (t : SourceTree) (m : ℕ) → type_of ty n b t ≡ Err m → (i : ℕ) × (m ≡ n + i) × FirstIn (IsAtFault ty) (placed ty b t) i
