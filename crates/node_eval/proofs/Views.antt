-- The view of each variant.
use Rattle.std.proofs.Common.{◌≡◌, ℕ, Vec, Box, Global, rules}
use Rattle.dict_source.specs.Tree.{literal, read, switch, many, one, two, pick}
use Rattle.dict_source.specs.declared.operators.ManyOp.{ManyOp}
use Rattle.dict_source.specs.declared.operators.OneOp.{OneOp}
use Rattle.dict_source.specs.declared.operators.TwoOp.{TwoOp}
use Rattle.dict_source.specs.declared.operators.PickOp.{PickOp}
use Rattle.fact_values.specs.declared.value.Value.{Value}
use Rattle.node_eval.specs.View.{view, trees_view, globals_view, cases_view}
use Rattle.node_eval.specs.declared.node.NodeRead.{NodeRead}
use Rattle.node_eval.specs.declared.node.ResolvedPath.{ResolvedPath}
use Rattle.node_eval.specs.declared.node.NodeCase.{NodeCase}
use Rattle.node_eval.specs.declared.node.Node.{Node, the_lemmas}
use Rattle.node_eval.specs.declared.node.Node.TheVariants.{Const, Read, Switch, Many, Globals, One, Two, Pick}

pub view-Const : (v : Value) → view (Const v) ≡ literal v
view-Const v = search (rules, the_lemmas)

pub view-Read : (op : NodeRead) (r : ResolvedPath) → view (Read op r) ≡ read (op, r)
view-Read op r = search (rules, the_lemmas)

pub view-Switch : (cs : Vec NodeCase Global) → view (Switch cs) ≡ switch (cases_view cs.items)
view-Switch cs = search (rules, the_lemmas)

pub view-Many : (op : ManyOp) (ns : Vec Node Global) → view (Many op ns) ≡ many op (trees_view ns.items)
view-Many op ns = search (rules, the_lemmas)

pub view-Globals : (op : ManyOp) (facts : Vec ℕ Global) → view (Globals op facts) ≡ many op (globals_view facts.items)
view-Globals op facts = search (rules, the_lemmas)

pub view-One : (op : OneOp) (a : Box Node Global) → view (One op a) ≡ one op (view a.value)
view-One op a = search (rules, the_lemmas)

pub view-Two : (op : TwoOp) (a b : Box Node Global) → view (Two op a b) ≡ two op (view a.value) (view b.value)
view-Two op a b = search (rules, the_lemmas)

pub view-Pick : (op : PickOp) (r : ResolvedPath) (a : Box Node Global) → view (Pick op r a) ≡ pick op r (view a.value)
view-Pick op r a = search (rules, the_lemmas)

pub ruleset views = (view-Const, view-Read, view-Switch, view-Many, view-Globals, view-One, view-Two, view-Pick)
