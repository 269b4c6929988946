-- The nodes of expressions in a small dictionary, by example.
use Rattle.std.proofs.Common.{◌≡◌, ℕ, true, pos, [], ◌∷◌, Some, None, Option, refl}
use Rattle.std.specs.Prelude.{codes}
use Rattle.fact_paths.specs.Paths.{fact_path_text, use_path_text}
use Rattle.fact_paths.specs.declared.fact_path.FactPath.{FactPath}
use Rattle.fact_paths.specs.declared.fact_path.FactPath.TheVariants as facts
use Rattle.fact_paths.specs.declared.use_path.UsePath.{UsePath}
use Rattle.fact_paths.specs.declared.use_path.UsePath.TheVariants as uses
use Rattle.fact_values.specs.declared.fact_type.FactType.TheVariants as types
use Rattle.fact_values.specs.declared.value.Value.TheVariants.{Boolean, Int}
use Rattle.dict_source.specs.declared.operators.ManyOp.TheVariants.{All}
use Rattle.dict_source.specs.declared.operators.PickOp.TheVariants.{Filter, Find}
use Rattle.dict_source.specs.declared.operators.ReadOp.{ReadOp}
use Rattle.dict_source.specs.declared.operators.ReadOp.TheVariants as reads
use Rattle.dict_source.specs.Tree.{Source, SourceCase, Use, a_case, literal, literal_int, many, no_cases, no_trees, pick, read, switch, tree}
use Rattle.dict_source.specs.Facts.{Fact, Stated, item_of, scalar, writable_list}
use Rattle.dict_source.specs.Dictionary.{Dictionary as Tree}
use Rattle.node_eval.specs.View.{Compiled as NodeTree}
use Rattle.node_eval.specs.declared.node.NodeRead.TheVariants.{Count, Dependency, IsComplete, SumDollar, SumInt}
use Rattle.node_eval.specs.declared.node.ResolvedPath.TheVariants.{Each, Global, Inner, Same, SameThrough, Through}
use Rattle.node_compile.specs.Compiling.{fact_trees, node_tree}

abbrev fact : FactPath → Stated → Option Source → Option SourceCase → Fact
fact path stated main conditional = record {
  path_text = fact_path_text path;
  path = Some path;
  stated = stated;
  limits = [];
  main = main;
  conditional = conditional;
  placeholder = None;
  description = None;
}

abbrev used : UsePath → Use
used path = record { text = use_path_text path; path = Some path }

abbrev by : ReadOp → UsePath → Source
by op path = read (op, used path)

-- a collection with three fields, an item of it, the same as a field, a global number, a fact with a conditional, and another
-- collection with a field
abbrev either : Fact
either = fact (facts.Global (codes "either")) (scalar types.Int) (Some (by reads.Dependency (uses.Global (codes "x")))) (Some (by reads.IsComplete (uses.Global (codes "x")), literal (literal_int (codes "2"))))

abbrev dictionary : Tree
dictionary = record {
  enums = [];
  tables = [];
  facts =
      fact (facts.Global (codes "c")) writable_list None None
      ∷ fact (facts.Member (codes "c") (codes "n")) (scalar types.Int) None None
      ∷ fact (facts.Member (codes "c") (codes "m")) (scalar types.Dollar) None None
      ∷ fact (facts.Member (codes "c") (codes "ok")) (scalar types.Boolean) None None
      ∷ fact (facts.Global (codes "i")) (item_of (used (uses.Global (codes "c")))) None None
      ∷ fact (facts.Member (codes "c") (codes "own")) (item_of (used (uses.Global (codes "c")))) None None
      ∷ fact (facts.Global (codes "x")) (scalar types.Int) None None
      ∷ either
      ∷ fact (facts.Global (codes "d")) writable_list None None
      ∷ fact (facts.Member (codes "d") (codes "ok")) (scalar types.Boolean) None None
      ∷ [];
}

-- each form of path under a condition, in a fact of the members
abbrev condition : Source
condition =
    many All
    (tree (by reads.Dependency (uses.Inner (codes "ok")))
    (tree (by reads.Dependency (uses.Sibling (codes "ok")))
    (tree (by reads.IsComplete (uses.Global (codes "x")))
    (tree (by reads.IsComplete (uses.Through (codes "i") (codes "n")))
    (tree (by reads.IsComplete (uses.SiblingThrough (codes "own") (codes "n")))
    (tree (by reads.Count (uses.Each (codes "c") (codes "ok"))) no_trees))))))

-- where the field of the condition's member is the fact with this number
abbrev condition_node : ℕ → NodeTree
condition_node ok =
    many All
    (tree (read (Dependency, Inner ok))
    (tree (read (Dependency, Same 4))
    (tree (read (IsComplete, Global 7))
    (tree (read (IsComplete, Through 5 2))
    (tree (read (IsComplete, SameThrough 6 2))
    (tree (read (Count, Each 1 4)) no_trees))))))

under_a_condition : node_tree dictionary 6 (pick Find (used (uses.Global (codes "c"))) condition) ≡ pick Find (Global 1) (condition_node 4)
under_a_condition = refl

-- behind a condition that stands in another, names are again those of the outer one
abbrev outer_condition : Source
outer_condition =
    many All
    (tree (pick Filter (used (uses.Global (codes "d"))) condition)
    (tree (by reads.Dependency (uses.Inner (codes "ok"))) no_trees))

under_conditions_in_each_other : node_tree dictionary 6 (pick Filter (used (uses.Global (codes "c"))) outer_condition) ≡ pick Filter (Global 1) (many All (tree (pick Filter (Global 9) (condition_node 10)) (tree (read (Dependency, Inner 4)) no_trees)))
under_conditions_in_each_other = refl

over_fields : (node_tree dictionary 7 (by reads.CollectionSum (uses.Each (codes "c") (codes "n"))) ≡ read (SumInt, Each 1 2)) × (node_tree dictionary 7 (by reads.CollectionSum (uses.Each (codes "c") (codes "m"))) ≡ read (SumDollar, Each 1 3)) × (node_tree dictionary 7 (by reads.Count (uses.Each (codes "c") (codes "ok"))) ≡ read (Count, Each 1 4))
over_fields = (refl, refl, refl)

with_a_conditional : (fact_trees dictionary 8 either).main ≡ Some (switch (a_case (read (IsComplete, Global 7)) (literal (Int (pos 2))) (a_case (literal (Boolean true)) (read (Dependency, Global 7)) no_cases)))
with_a_conditional = refl
