-- What holds of each thing that an expression names, wherever it stands in it.
-- A read and a collection stand under a base: that of the innermost condition, of type B.
use Rattle.std.specs.Prelude.{◌≡◌, ℕ, List, [], ◌∷◌, ◌++◌, Some, unwrap_or}
use Rattle.fact_values.specs.declared.fact_type.FactType.{FactType}
use Rattle.dict_source.specs.Tree.{Tree, literal, read, switch, many, one, two, pick, Trees, no_trees, tree, Cases, no_cases, a_case}
use Rattle.dict_source.specs.Typing.{Types}

-- Q of each read, W of each collection. A condition's base is `on` of the base that its node stands under, and its collection
abbrev mutual
  pub Each : {B C R P : Type 0} → (B → R → Type 0) → (B → P → Type 0) → (B → P → B) → B → Tree C R P → Type 0
  Each Q W on b (literal c) = Unit {0}
  Each Q W on b (read r) = Q b r
  Each Q W on b (switch cs) = EachInCases Q W on b cs
  Each Q W on b (many op ts) = EachInAll Q W on b ts
  Each Q W on b (one op t) = Each Q W on b t
  Each Q W on b (two op x y) = Each Q W on b x × Each Q W on b y
  Each Q W on b (pick op p t) = W b p × Each Q W on (on b p) t

  pub EachInAll : {B C R P : Type 0} → (B → R → Type 0) → (B → P → Type 0) → (B → P → B) → B → Trees C R P → Type 0
  EachInAll Q W on b no_trees = Unit {0}
  EachInAll Q W on b (tree t ts) = Each Q W on b t × EachInAll Q W on b ts

  pub EachInCases : {B C R P : Type 0} → (B → R → Type 0) → (B → P → Type 0) → (B → P → B) → B → Cases C R P → Type 0
  EachInCases Q W on b no_cases = Unit {0}
  EachInCases Q W on b (a_case t o cs) = Each Q W on b t × Each Q W on b o × EachInCases Q W on b cs

-- what is gathered from each read and each collection, in order
abbrev mutual
  pub gather : {B C R P X : Type 0} → (B → R → List X) → (B → P → List X) → (B → P → B) → B → Tree C R P → List X
  gather r p on b (literal c) = []
  gather r p on b (read x) = r b x
  gather r p on b (switch cs) = gather_cases r p on b cs
  gather r p on b (many op ts) = gather_all r p on b ts
  gather r p on b (one op t) = gather r p on b t
  gather r p on b (two op x y) = gather r p on b x ++ gather r p on b y
  gather r p on b (pick op s t) = p b s ++ gather r p on (on b s) t

  pub gather_all : {B C R P X : Type 0} → (B → R → List X) → (B → P → List X) → (B → P → B) → B → Trees C R P → List X
  gather_all r p on b no_trees = []
  gather_all r p on b (tree t ts) = gather r p on b t ++ gather_all r p on b ts

  pub gather_cases : {B C R P X : Type 0} → (B → R → List X) → (B → P → List X) → (B → P → B) → B → Cases C R P → List X
  gather_cases r p on b no_cases = []
  gather_cases r p on b (a_case t o cs) = gather r p on b t ++ (gather r p on b o ++ gather_cases r p on b cs)

-- what holds of each of a list
abbrev pub AllOf : {X : Type 0} → (X → Type 0) → List X → Type 0
AllOf M [] = Unit {0}
AllOf M (x ∷ xs) = M x × AllOf M xs

-- ---- in a typed expression

abbrev pub HasReadType : {C R P : Type 0} → Types C R P → ℕ → R → Type 0
HasReadType ty b r = (t : FactType) × (ty.reads b r ≡ Some t)

abbrev pub HasBase : {C R P : Type 0} → Types C R P → ℕ → P → Type 0
HasBase ty b p = (c : ℕ) × (ty.source b p ≡ Some c)

-- the base of a condition
abbrev pub base_of : {C R P : Type 0} → Types C R P → ℕ → P → ℕ
base_of ty b p = unwrap_or (ty.source b p) 0
