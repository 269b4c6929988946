-- The view of each variant.
use Rattle.std.proofs.Common.{◌≡◌, Vec, Box, Global, rules}
use Rattle.dict_source.specs.Tree.{literal, read, switch, many, one, two, pick}
use Rattle.dict_source.specs.View.{view, literal_of, use_view, trees_view, cases_view}
use Rattle.dict_source.specs.declared.constant.Constant.{Constant}
use Rattle.dict_source.specs.declared.path_use.PathUse.{PathUse}
use Rattle.dict_source.specs.declared.operators.ReadOp.{ReadOp}
use Rattle.dict_source.specs.declared.operators.ManyOp.{ManyOp}
use Rattle.dict_source.specs.declared.operators.OneOp.{OneOp}
use Rattle.dict_source.specs.declared.operators.TwoOp.{TwoOp}
use Rattle.dict_source.specs.declared.operators.PickOp.{PickOp}
use Rattle.dict_source.specs.declared.expr.Case.{Case}
use Rattle.dict_source.specs.declared.expr.Expr.{Expr, the_lemmas}
use Rattle.dict_source.specs.declared.expr.Expr.TheVariants.{Const, Read, Switch, Many, One, Two, Pick}

pub view-Const : (c : Constant) → view (Const c) ≡ literal (literal_of c)
view-Const c = search (rules, the_lemmas)

pub view-Read : (op : ReadOp) (p : PathUse) → view (Read op p) ≡ read (op, use_view p)
view-Read op p = search (rules, the_lemmas)

pub view-Switch : (v : Vec Case Global) → view (Switch v) ≡ switch (cases_view v.items)
view-Switch v = search (rules, the_lemmas)

pub view-Many : (op : ManyOp) (v : Vec Expr Global) → view (Many op v) ≡ many op (trees_view v.items)
view-Many op v = search (rules, the_lemmas)

pub view-One : (op : OneOp) (a : Box Expr Global) → view (One op a) ≡ one op (view a.value)
view-One op a = search (rules, the_lemmas)

pub view-Two : (op : TwoOp) (a b : Box Expr Global) → view (Two op a b) ≡ two op (view a.value) (view b.value)
view-Two op a b = search (rules, the_lemmas)

pub view-Pick : (op : PickOp) (p : PathUse) (a : Box Expr Global) → view (Pick op p a) ≡ pick op (use_view p) (view a.value)
view-Pick op p a = search (rules, the_lemmas)

pub ruleset views = (view-Const, view-Read, view-Switch, view-Many, view-One, view-Two, view-Pick)
