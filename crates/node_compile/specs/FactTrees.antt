-- What the nodes of a fact are, as trees.
use Rattle.std.specs.Prelude.{option_map}
use Rattle.node_eval.specs.View.{view}
use Rattle.node_compile.specs.Compiling.{NodeTrees}
use Rattle.node_compile.specs.declared.fact.FactNodes.{FactNodes}

abbrev pub trees_of : FactNodes → NodeTrees
trees_of f = record { main = option_map view f.main; placeholder = option_map view f.placeholder }
