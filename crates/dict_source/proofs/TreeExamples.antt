-- Nodes, their number and depth, of worked expressions.
use Rattle.std.proofs.Common.{◌≡◌, [], ◌∷◌, Some, refl}
use Rattle.std.specs.Prelude.{codes}
use Rattle.fact_paths.specs.declared.use_path.UsePath.TheVariants.{Global}
use Rattle.dict_source.specs.declared.operators.ReadOp.TheVariants.{Dependency}
use Rattle.dict_source.specs.declared.operators.ManyOp.TheVariants.{Add}
use Rattle.dict_source.specs.declared.operators.OneOp.TheVariants.{Not}
use Rattle.dict_source.specs.Tree.{Source, literal_int, literal_true, literal, read, switch, many, one, no_trees, tree, no_cases, a_case, nodes, size, depth}

-- `["Dependency","/a"]`
abbrev dependency : Source
dependency = read (Dependency, record { text = codes "/a"; path = Some (Global (codes "a")) })

abbrev one_more : Source
one_more = many Add (tree dependency (tree (literal (literal_int (codes "1"))) no_trees))

-- `["Switch",["Case",["Not",["True"]],["Add",["Dependency","/a"],["Int","1"]]]]`
abbrev chosen : Source
chosen = switch (a_case (one Not (literal literal_true)) one_more no_cases)

-- a case isn't a node: the switch, its test, what the test negates, its outcome and two operands
in_preorder : nodes chosen ≡ chosen ∷ one Not (literal literal_true) ∷ literal literal_true ∷ one_more ∷ dependency ∷ literal (literal_int (codes "1")) ∷ []
in_preorder = refl

six_nodes : size chosen ≡ 6
six_nodes = refl

three_deep : depth chosen ≡ 3
three_deep = refl

leaf_is_one_deep : depth dependency ≡ 1
leaf_is_one_deep = refl
