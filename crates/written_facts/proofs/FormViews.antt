-- The view of each kind of form.
use Rattle.std.proofs.Common.{◌≡◌, ℕ, List, Bor, rules}
use Rattle.dict_source.specs.Tree.{literal, read, switch, many, one, two, pick}
use Rattle.dict_source.specs.View.{use_of}
use Rattle.dict_source.specs.declared.operators.ReadOp.{ReadOp}
use Rattle.dict_source.specs.declared.operators.ManyOp.{ManyOp}
use Rattle.fact_json.specs.Names.{op_of_name}
use Rattle.fact_json.specs.declared.node_name.OneName.{OneName}
use Rattle.dict_source.specs.declared.operators.TwoOp.{TwoOp}
use Rattle.dict_source.specs.declared.operators.PickOp.{PickOp}
use Rattle.dict_source.proofs.Views.{views}
use Rattle.written_facts.specs.Figures.{Named}
use Rattle.written_facts.specs.Forms.{fixed_view, form_view, forms_view, whens_view}
use Rattle.written_facts.specs.declared.form.Fixed.{Fixed}
use Rattle.written_facts.specs.declared.form.When.{When}
use Rattle.written_facts.specs.declared.form.Form.{Form, the_lemmas}
use Rattle.written_facts.specs.declared.form.Form.TheVariants.{Const, Read, Switch, Many, One, Two, Pick}

pub form_view-Const : (fs : List Named) (c : Fixed) → form_view fs (Const c) ≡ literal (fixed_view fs c)
form_view-Const fs c = search (rules, the_lemmas)

pub form_view-Read : (fs : List Named) (op : ReadOp) (p : Bor (List ℕ)) → form_view fs (Read op p) ≡ read (op, use_of p.now)
form_view-Read fs op p = search (rules, the_lemmas)

pub form_view-Switch : (fs : List Named) (v : Bor (List When)) → form_view fs (Switch v) ≡ switch (whens_view fs v.now)
form_view-Switch fs v = search (rules, the_lemmas)

pub form_view-Many : (fs : List Named) (op : ManyOp) (v : Bor (List Form)) → form_view fs (Many op v) ≡ many op (forms_view fs v.now)
form_view-Many fs op v = search (rules, the_lemmas)

pub form_view-One : (fs : List Named) (name : OneName) (a : Bor Form) → form_view fs (One name a) ≡ one (op_of_name name) (form_view fs a.now)
form_view-One fs name a = search (rules, the_lemmas)

pub form_view-Two : (fs : List Named) (op : TwoOp) (a b : Bor Form) → form_view fs (Two op a b) ≡ two op (form_view fs a.now) (form_view fs b.now)
form_view-Two fs op a b = search (rules, the_lemmas)

pub form_view-Pick : (fs : List Named) (op : PickOp) (p : Bor (List ℕ)) (a : Bor Form) → form_view fs (Pick op p a) ≡ pick op (use_of p.now) (form_view fs a.now)
form_view-Pick fs op p a = search (rules, the_lemmas)

pub ruleset forms = (form_view-Const, form_view-Read, form_view-Switch, form_view-Many, form_view-One, form_view-Two, form_view-Pick)

pub ruleset both = (views, form_view-Switch)
