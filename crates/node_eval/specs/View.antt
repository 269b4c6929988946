-- The tree that a `Node` stands for.
use Rattle.std.specs.Prelude.{ℕ, List, [], ◌∷◌, map}
use Rattle.dict_source.specs.Tree.{Tree, Trees, Cases, literal, read, switch, many, one, two, pick, no_trees, tree, no_cases, a_case}
use Rattle.fact_values.specs.declared.value.Value.{Value}
use Rattle.node_eval.specs.declared.node.NodeRead.{NodeRead}
use Rattle.node_eval.specs.declared.node.NodeRead.TheVariants.{Dependency}
use Rattle.node_eval.specs.declared.node.ResolvedPath.{ResolvedPath}
use Rattle.node_eval.specs.declared.node.ResolvedPath.TheVariants.{Global}
use Rattle.node_eval.specs.declared.node.Node.{Node, fold-Node}
use Rattle.node_eval.specs.declared.node.NodeCase.{NodeCase}
use Rattle.node_eval.specs.declared.node.Node.TheOpen.{Node-F, NodeCase-F}

-- a leaf that reads
abbrev pub Reading : Type 0
Reading = NodeRead × ResolvedPath

-- an expression, compiled
abbrev pub Compiled : Type 0
Compiled = Tree Value Reading ResolvedPath

abbrev pub CompiledCase : Type 0
CompiledCase = Compiled × Compiled

-- ---- lists of trees

abbrev pub trees_of : {C R P : Type 0} → List (Tree C R P) → Trees C R P
trees_of [] = no_trees
trees_of (t ∷ ts) = tree t (trees_of ts)

abbrev pub cases_of : {C R P : Type 0} → List (Tree C R P × Tree C R P) → Cases C R P
cases_of [] = no_cases
cases_of (c ∷ cs) = a_case c.0 c.1 (cases_of cs)

-- ---- nodes

-- a Dependency of a fact that stands once, and a list of them
abbrev pub global_read : ℕ → Compiled
global_read fact = read (Dependency, Global fact)

abbrev pub globals_view : List ℕ → Trees Value Reading ResolvedPath
globals_view facts = trees_of (map global_read facts)

abbrev pub view_step : Node-F Compiled CompiledCase → Compiled
view_step (Node-F.Const v) = literal v
view_step (Node-F.Read op r) = read (op, r)
view_step (Node-F.Switch cs) = switch (cases_of cs.items)
view_step (Node-F.Many op ts) = many op (trees_of ts.items)
view_step (Node-F.Globals op facts) = many op (globals_view facts.items)
view_step (Node-F.One op t) = one op t.value
view_step (Node-F.Two op a b) = two op a.value b.value
view_step (Node-F.Pick op r t) = pick op r t.value

abbrev pub case_step : NodeCase-F Compiled CompiledCase → CompiledCase
case_step c = (c.test, c.outcome)

abbrev pub view : Node → Compiled
view = fold-Node Compiled CompiledCase view_step case_step

abbrev pub case_view : NodeCase → CompiledCase
case_view c = (view c.test, view c.outcome)

abbrev pub trees_view : List Node → Trees Value Reading ResolvedPath
trees_view ns = trees_of (map view ns)

abbrev pub cases_view : List NodeCase → Cases Value Reading ResolvedPath
cases_view cs = cases_of (map case_view cs)
