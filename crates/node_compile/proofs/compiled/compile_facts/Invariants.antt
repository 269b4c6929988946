-- The nodes so far, and those of the facts that are left, are all.
use Rattle.std.proofs.Common.{◌≡◌, ◌+◌, ◌++◌, drop, map}
use Rattle.dict_source.specs.Dictionary.{dictionary_view}
use Rattle.dict_source.specs.Facts.{fact_view}
use Rattle.node_compile.specs.Compiling.{facts_trees}
use Rattle.node_compile.specs.FactTrees.{trees_of}
use Rattle.node_compile.proofs.compiled.compile_facts.Given as goal

abbrev pub invariant-loop-i : goal.invariant-loop-i
invariant-loop-i l = map trees_of l.all.items ++ facts_trees (dictionary_view l.source) (l.i + 1) (map fact_view (drop l.i l.facts)) ≡ facts_trees (dictionary_view l.source) 1 (map fact_view l.facts)
