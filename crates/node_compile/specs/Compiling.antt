-- The node of an expression: what the names in it stand for, by the dictionary and the fact in which it stands.
use Rattle.std.specs.Prelude.{ℕ, suc, List, [], ◌∷◌, Option, Some, None, option_map, unwrap_or}
use Rattle.fact_paths.specs.declared.use_path.UsePath.{UsePath}
use Rattle.fact_paths.specs.declared.use_path.UsePath.TheVariants as uses
use Rattle.fact_values.specs.declared.fact_type.FactType.{FactType}
use Rattle.fact_values.specs.declared.fact_type.FactType.TheVariants as types
use Rattle.fact_values.specs.declared.value.Value.{Value}
use Rattle.dict_source.specs.declared.operators.ReadOp.{ReadOp}
use Rattle.dict_source.specs.declared.operators.ReadOp.TheVariants as reads
use Rattle.dict_source.specs.declared.targets.Targets.{Targets}
use Rattle.dict_source.specs.Dictionary.{Dictionary as Tree}
use Rattle.dict_source.specs.Facts.{Fact}
use Rattle.dict_source.specs.Mentions.{condition_base}
use Rattle.dict_source.specs.Targets.{targets}
use Rattle.dict_source.specs.Tree.{Literal, Reading, Source, Use}
use Rattle.evaluation.specs.Resolving.{Names, resolved}
use Rattle.dict_meaning.specs.Plain.{body}
use Rattle.dict_meaning.specs.Dependencies.{constant_value, field_type}
use Rattle.node_eval.specs.View.{Compiled as NodeTree, Reading as NodeReading}
use Rattle.node_eval.specs.declared.node.NodeRead.{NodeRead}
use Rattle.node_eval.specs.declared.node.NodeRead.TheVariants.{Dependency, IsComplete, CollectionSize, SumInt, SumDollar, Count}
use Rattle.node_eval.specs.declared.node.ResolvedPath.{ResolvedPath}
use Rattle.node_eval.specs.declared.node.ResolvedPath.TheVariants.{Global, Same, Inner, Each, Through, SameThrough}

-- ---- use paths

-- of a target: 0, which is the number of no fact, where there is none
abbrev pub number : Option ℕ → ℕ
number target = unwrap_or target 0

-- the path's form, with the numbers of its targets
abbrev pub resolved_path : UsePath → Targets → ResolvedPath
resolved_path (uses.Global n) t = Global (number t.first)
resolved_path (uses.Sibling n) t = Same (number t.first)
resolved_path (uses.Inner n) t = Inner (number t.first)
resolved_path (uses.Each n m) t = Each (number t.first) (number t.second)
resolved_path (uses.Through n m) t = Through (number t.first) (number t.second)
resolved_path (uses.SiblingThrough n m) t = SameThrough (number t.first) (number t.second)

abbrev pub resolved_use : Tree → ℕ → ℕ → Option UsePath → ResolvedPath
resolved_use d fact base None = Global 0
resolved_use d fact base (Some path) = resolved_path path (targets d fact base path)

-- ---- leaves that read

-- a CollectionSum, by the type of the field
abbrev pub sum_read : FactType → NodeRead
sum_read types.Dollar = SumDollar
sum_read _ = SumInt

abbrev pub read_of : Tree → Targets → ReadOp → NodeRead
read_of d t reads.Dependency = Dependency
read_of d t reads.IsComplete = IsComplete
read_of d t reads.CollectionSize = CollectionSize
read_of d t reads.CollectionSum = sum_read (field_type d t)
read_of d t reads.Count = Count

abbrev pub reading : Tree → ℕ → ℕ → ReadOp → Option UsePath → NodeReading
reading d fact base op None = (Dependency, Global 0)
reading d fact base op (Some path) = (read_of d (targets d fact base path) op, resolved_path path (targets d fact base path))

-- ---- expressions

-- what the names in an expression of the fact stand for, under a condition over a base, or with the base 0 outside of conditions
abbrev pub names : Tree → ℕ → Names ℕ Literal Reading Use Value NodeReading ResolvedPath
names d fact = record {
  constant = constant_value d.enums;
  reads = λ base r. reading d fact base r.0 r.1.path;
  source = λ base u. resolved_use d fact base u.path;
  base = λ base u. condition_base d fact base u.path;
}

-- of an expression that stands outside of conditions
abbrev pub node_tree : Tree → ℕ → Source → NodeTree
node_tree d fact t = resolved (names d fact) 0 t

-- ---- facts

-- the nodes of a fact: that of its body, which has the conditional, and that of its placeholder
pub record NodeTrees : Type 0 where
  pub main : Option NodeTree
  pub placeholder : Option NodeTree

abbrev pub fact_trees : Tree → ℕ → Fact → NodeTrees
fact_trees d n f = record {
  main = option_map (node_tree d n) (body f);
  placeholder = option_map (node_tree d n) f.placeholder;
}

-- of each fact, where they are counted from n
abbrev pub facts_trees : Tree → ℕ → List Fact → List NodeTrees
facts_trees d n [] = []
facts_trees d n (f ∷ fs) = fact_trees d n f ∷ facts_trees d (suc n) fs
