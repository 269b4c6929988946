-- What an expression is: a tree, with lists of operands and of cases.
use Rattle.std.specs.Prelude.{ℕ, suc, ◌+◌, max, List, [], ◌∷◌, ◌++◌, Option}
use Rattle.fact_paths.specs.declared.use_path.UsePath.{UsePath}
use Rattle.dict_source.specs.declared.operators.ReadOp.{ReadOp}
use Rattle.dict_source.specs.declared.operators.ManyOp.{ManyOp}
use Rattle.dict_source.specs.declared.operators.OneOp.{OneOp}
use Rattle.dict_source.specs.declared.operators.TwoOp.{TwoOp}
use Rattle.dict_source.specs.declared.operators.PickOp.{PickOp}

-- a constant, by its text
pub data Literal : Type 0 where
  literal_true : Literal
  literal_false : Literal
  literal_int : List ℕ → Literal
  literal_dollar : List ℕ → Literal
  literal_rational : List ℕ → Literal
  literal_day : List ℕ → Literal
  literal_text : List ℕ → Literal
  literal_choice : List ℕ → List ℕ → Literal

-- a path by which a fact is used, and its text
pub record Use : Type 0 where
  pub text : List ℕ
  pub path : Option UsePath

-- a tree with constants of type C, leaves that read of type R, and collections of type P
mutual
  pub data Tree (C R P : Type 0) : Type 0 where
    literal : C → Tree C R P
    read : R → Tree C R P
    switch : Cases C R P → Tree C R P
    many : ManyOp → Trees C R P → Tree C R P
    one : OneOp → Tree C R P → Tree C R P
    two : TwoOp → Tree C R P → Tree C R P → Tree C R P
    pick : PickOp → P → Tree C R P → Tree C R P

  pub data Trees (C R P : Type 0) : Type 0 where
    no_trees : Trees C R P
    tree : Tree C R P → Trees C R P → Trees C R P

  pub data Cases (C R P : Type 0) : Type 0 where
    no_cases : Cases C R P
    a_case : Tree C R P → Tree C R P → Cases C R P → Cases C R P

-- a leaf of a source that reads
abbrev pub Reading : Type 0
Reading = ReadOp × Use

-- an expression as it is written
abbrev pub Source : Type 0
Source = Tree Literal Reading Use

abbrev pub Sources : Type 0
Sources = Trees Literal Reading Use

abbrev pub SourceCases : Type 0
SourceCases = Cases Literal Reading Use

abbrev pub SourceCase : Type 0
SourceCase = Source × Source

-- ---- nodes

-- the nodes in preorder; a case isn't a node
abbrev mutual
  pub nodes : {C R P : Type 0} → Tree C R P → List (Tree C R P)
  nodes (literal c) = literal c ∷ []
  nodes (read r) = read r ∷ []
  nodes (switch cs) = switch cs ∷ nodes_of_cases cs
  nodes (many op ts) = many op ts ∷ nodes_of_trees ts
  nodes (one op t) = one op t ∷ nodes t
  nodes (two op a b) = two op a b ∷ (nodes a ++ nodes b)
  nodes (pick op p t) = pick op p t ∷ nodes t

  pub nodes_of_trees : {C R P : Type 0} → Trees C R P → List (Tree C R P)
  nodes_of_trees no_trees = []
  nodes_of_trees (tree t ts) = nodes t ++ nodes_of_trees ts

  pub nodes_of_cases : {C R P : Type 0} → Cases C R P → List (Tree C R P)
  nodes_of_cases no_cases = []
  nodes_of_cases (a_case t o cs) = nodes t ++ (nodes o ++ nodes_of_cases cs)

-- how many nodes there are
abbrev mutual
  pub size : {C R P : Type 0} → Tree C R P → ℕ
  size (literal c) = 1
  size (read r) = 1
  size (switch cs) = suc (size_of_cases cs)
  size (many op ts) = suc (size_of_trees ts)
  size (one op t) = suc (size t)
  size (two op a b) = suc (size a + size b)
  size (pick op p t) = suc (size t)

  pub size_of_trees : {C R P : Type 0} → Trees C R P → ℕ
  size_of_trees no_trees = 0
  size_of_trees (tree t ts) = size t + size_of_trees ts

  pub size_of_cases : {C R P : Type 0} → Cases C R P → ℕ
  size_of_cases no_cases = 0
  size_of_cases (a_case t o cs) = size t + (size o + size_of_cases cs)

-- a node without sub-expressions has depth 1, another has 1 more than its deepest
abbrev mutual
  pub depth : {C R P : Type 0} → Tree C R P → ℕ
  depth (literal c) = 1
  depth (read r) = 1
  depth (switch cs) = suc (depth_of_cases cs)
  depth (many op ts) = suc (depth_of_trees ts)
  depth (one op t) = suc (depth t)
  depth (two op a b) = suc (max (depth a) (depth b))
  depth (pick op p t) = suc (depth t)

  pub depth_of_trees : {C R P : Type 0} → Trees C R P → ℕ
  depth_of_trees no_trees = 0
  depth_of_trees (tree t ts) = max (depth t) (depth_of_trees ts)

  pub depth_of_cases : {C R P : Type 0} → Cases C R P → ℕ
  depth_of_cases no_cases = 0
  depth_of_cases (a_case t o cs) = max (max (depth t) (depth o)) (depth_of_cases cs)
