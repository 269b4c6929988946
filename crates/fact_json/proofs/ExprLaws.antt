-- What is read is spelled, and what is spelled is read.
use Rattle.std.proofs.Common.{◌≡◌, ℕ, ◌≤◌, List, [], ◌∷◌, Bool, true, false, length, Option, Some, option_map, option_and_then, refl, sym, ap, subst, ◌∙◌, arith, le-leb}
use Rattle.std.specs.Prelude.{codes, nat_le}
use Rattle.std.proofs.lemmas.Option.{same_Some}
use Rattle.common_lemmas.proofs.Bools.{chosen}
use Rattle.common_lemmas.proofs.Bytes.{same_bytes}
use Rattle.common_lemmas.proofs.Options.{both_some, mapped}
use Rattle.serde_json.specs.Data.{Data, string, array, Items, no_items, item}
use Rattle.serde_json.specs.Find.{as_str}
use Rattle.fact_paths.specs.declared.use_path.UsePath.{UsePath}
use Rattle.fact_paths.specs.Parsing.{use_path_of}
use Rattle.dict_source.specs.declared.operators.ManyOp.{ManyOp}
use Rattle.dict_source.specs.declared.operators.ManyOp.TheVariants.{Subtract}
use Rattle.fact_json.specs.declared.node_name.ConstantName.{ConstantName}
use Rattle.fact_json.specs.declared.node_name.ConstantName.TheVariants as constants
use Rattle.fact_json.specs.declared.node_name.OneName.{OneName}
use Rattle.fact_json.specs.declared.node_name.OneName.TheVariants as one_names
use Rattle.dict_source.specs.declared.operators.OneOp.TheVariants as ones
use Rattle.fact_json.specs.declared.node_name.NodeName.{NodeName}
use Rattle.fact_json.specs.declared.node_name.NodeName.TheVariants as names
use Rattle.fact_json.specs.Names.{node_name, node_named, constant_name, read_name, many_name, one_name, op_of_name, two_name, pick_name}
use Rattle.dict_source.specs.Tree.{Literal, literal_true, literal_false, literal_int, literal_dollar, literal_rational, literal_day, literal_text, Use, Source, Sources, SourceCase, SourceCases, literal, read, switch, many, one, two, pick, no_trees, tree, no_cases, a_case}
use Rattle.dict_source.specs.View.{trees_of, cases_of, use_of}
use Rattle.dict_source.specs.Forms.{HasForm, HasTable, HaveForms, HaveCaseForms, AreEnough, AreSome, AreCases, IsUse}
use Rattle.fact_json.specs.Json.{node_json, one_json, text_json, literal_json, json_of, json_of_trees, json_of_cases, Spells}
use Rattle.fact_json.specs.Parsing.{looked_of, no_operand, one_text, two_texts, constant_of, fewest, at_least, case_if, is_text, node_of, tree_of, array_tree, only_tree, pair_tree, picked_tree, tree_list, case_of, case_list}
use Rattle.dict_source.specs.Tables.{LookupTable, table_named}
use Rattle.dict_source.proofs.NamedTables.{table_has_name}
use Rattle.fact_json.proofs.NameLaws.{node_named-node_name, node_named_some}
use Rattle.dict_source.proofs.UseLaws.{use_path_given, use_path_from}

-- ---- pieces

pub text_is : (d : Data) (s : List ℕ) → as_str d ≡ Some s → d ≡ string s
text_is (string t) s e = ap string (same_Some t s e)
text_is d s e = absurd cc

one_text_is : (ds : Items) (s : List ℕ) → one_text ds ≡ Some s → ds ≡ item (string s) no_items
one_text_is (item d no_items) s e = ap (λ (x : Data). item x no_items) (text_is d s e)
one_text_is ds s e = absurd cc

abbrev two_items : Data → Data → Items
two_items d e = item d (item e no_items)

abbrev Texts : Type 0
Texts = List ℕ × List ℕ

pub two_texts_are : (ds : Items) (p : Texts) → two_texts ds ≡ Some p → ds ≡ two_items (string p.0) (string p.1)
two_texts_are (item d (item f no_items)) p e =
    let a = both_some _ (as_str d) p e in
    let b = mapped _ (as_str f) p a.2 in
    rw b.2 (ap (λ (x : Data). two_items x f) (text_is d a.0 a.1) ∙ ap (two_items (string a.0)) (text_is f b.0 b.1))
two_texts_are ds p e = absurd cc

-- ---- constants

bare_is : (l m : Literal) (ds : Items) → no_operand l ds ≡ Some m → (ds ≡ no_items) × (l ≡ m)
bare_is l m no_items e = (refl, same_Some l m e)
bare_is l m ds e = absurd cc

abbrev IsConstant : ConstantName → Items → Literal → Type 0
IsConstant kind ds l = node_json (constant_name kind) ds ≡ literal_json l

texted : (kind : ConstantName) (make : List ℕ → Literal) (ds : Items) (l : Literal) → ((s : List ℕ) → text_json (constant_name kind) s ≡ literal_json (make s)) → option_map make (one_text ds) ≡ Some l → IsConstant kind ds l
texted kind make ds l is e =
    let a = mapped make (one_text ds) l e in
    rw a.2 (ap (node_json (constant_name kind)) (one_text_is ds a.0 a.1) ∙ is a.0)

constant_found : (kind : ConstantName) (ds : Items) (l : Literal) → constant_of kind ds ≡ Some l → IsConstant kind ds l
constant_found constants.True ds l e = let a = bare_is literal_true l ds e in ap (node_json (codes "True")) a.0 ∙ ap literal_json a.1
constant_found constants.False ds l e = let a = bare_is literal_false l ds e in ap (node_json (codes "False")) a.0 ∙ ap literal_json a.1
constant_found constants.Int ds l e = texted constants.Int literal_int ds l (λ s. refl) e
constant_found constants.Dollar ds l e = texted constants.Dollar literal_dollar ds l (λ s. refl) e
constant_found constants.Rational ds l e = texted constants.Rational literal_rational ds l (λ s. refl) e
constant_found constants.Day ds l e = texted constants.Day literal_day ds l (λ s. refl) e
constant_found constants.Text ds l e = texted constants.Text literal_text ds l (λ s. refl) e
constant_found constants.Enum ds l e =
    let a = mapped _ (two_texts ds) l e in
    rw a.2 (ap (node_json (codes "Enum")) (two_texts_are ds a.0 a.1))

-- ---- enough operands

pub at_least_some : {A : Type 0} (n : ℕ) (xs ys : List A) → at_least n xs ≡ Some ys → (nat_le n (length ys) ≡ true) × (xs ≡ ys)
at_least_some n xs ys e =
    let g = chosen (nat_le n (length xs)) xs ys e in
    (subst (λ l. nat_le n (length l) ≡ true) g.1 g.0, g.1)

are_some : (ts : List Source) → nat_le 1 (length ts) ≡ true → AreSome (trees_of ts)
are_some [] h = absurd (let e : false ≡ true = h in cc)
are_some (t ∷ ts) h = tt

are_enough : (op : ManyOp) (ts : List Source) → nat_le (fewest op) (length ts) ≡ true → AreEnough op (trees_of ts)
are_enough Subtract (t ∷ u ∷ ts) h = tt
are_enough Subtract ts h = absurd (let e : false ≡ true = h in cc)
are_enough op ts h = are_some ts h

are_cases : (cs : List SourceCase) → nat_le 1 (length cs) ≡ true → AreCases (cases_of cs)
are_cases [] h = absurd (let e : false ≡ true = h in cc)
are_cases (c ∷ cs) h = tt

pub is_use : (s : List ℕ) → IsUse (use_of s)
is_use s = use_path_from s (use_path_of s) refl

pub use_again : (u : Use) → IsUse u → use_of u.text ≡ u
use_again u h = let made : Option UsePath → Use = λ p. record { text = u.text; path = p } in ap made (use_path_given u.text u.path h)

named_json : (name : OneName) (d : Data) → one_json (op_of_name name) d ≡ node_json (one_name (op_of_name name)) (item d no_items)
named_json one_names.Not d = refl
named_json name d = refl

abbrev pub case_json : SourceCase → Data
case_json p = node_json (codes "Case") (two_items (json_of p.0) (json_of p.1))

word_is : (word : List ℕ) (d : Data) → is_text word (as_str d) ≡ true → d ≡ string word
word_is word (string text) h = ap string (same_bytes text word h)
word_is word d h = absurd cc

case_guard : (b : Bool) (pair : Option SourceCase) (p : SourceCase) → case_if b pair ≡ Some p → (b ≡ true) × (pair ≡ Some p)
case_guard true pair p e = (refl, e)
case_guard false pair p e = absurd cc

-- ---- lists of trees

abbrev list_from : Sources → List Source
list_from no_trees = []
list_from (tree t ts) = t ∷ list_from ts

from_list : (ts : Sources) → trees_of (list_from ts) ≡ ts
from_list no_trees = refl
from_list (tree t ts) = ap (tree t) (from_list ts)

abbrev cases_from : SourceCases → List SourceCase
cases_from no_cases = []
cases_from (a_case t o cs) = (t, o) ∷ cases_from cs

from_cases : (cs : SourceCases) → cases_of (cases_from cs) ≡ cs
from_cases no_cases = refl
from_cases (a_case t o cs) = ap (a_case t o) (from_cases cs)

at_least_is : {A : Type 0} (n : ℕ) (xs : List A) → n ≤ length xs → at_least n xs ≡ Some xs
at_least_is n xs h = rw (le-leb n (length xs) h) refl

some_list : (ts : Sources) → AreSome ts → at_least 1 (list_from ts) ≡ Some (list_from ts)
some_list no_trees h = absurd h
some_list (tree t ts) h = at_least_is 1 (t ∷ list_from ts) (omega arith)

enough_list : (op : ManyOp) (ts : Sources) → AreEnough op ts → at_least (fewest op) (list_from ts) ≡ Some (list_from ts)
enough_list Subtract (tree t (tree u ts)) h = at_least_is 2 (t ∷ u ∷ list_from ts) (omega arith)
enough_list Subtract ts h = absurd h
enough_list op ts h = some_list ts h

some_cases : (cs : SourceCases) → AreCases cs → at_least 1 (cases_from cs) ≡ Some (cases_from cs)
some_cases no_cases h = absurd h
some_cases (a_case t o cs) h = at_least_is 1 ((t, o) ∷ cases_from cs) (omega arith)

module _ (tables : List LookupTable) where
  -- ---- what is read is spelled

  abbrev pub PairRead : Items → SourceCase → Type 0
  PairRead ds p = HasForm tables p.0 × HasForm tables p.1 × (ds ≡ two_items (json_of p.0) (json_of p.1))

  abbrev Picked : Type 0
  Picked = List ℕ × Source

  abbrev PickedRead : Items → Picked → Type 0
  PickedRead ds p = HasForm tables p.1 × (ds ≡ two_items (string p.0) (json_of p.1))

  abbrev ListRead : Items → List Source → Type 0
  ListRead ds ts = HaveForms tables (trees_of ts) × (ds ≡ json_of_trees (trees_of ts))

  abbrev CasesRead : Items → List SourceCase → Type 0
  CasesRead ds cs = HaveCaseForms tables (cases_of cs) × (ds ≡ json_of_cases (cases_of cs))

  record OperandsRead (ds : Items) : Type 0 where
    only : (t : Source) → only_tree tables ds ≡ Some t → HasForm tables t × (ds ≡ item (json_of t) no_items)
    pair : (p : SourceCase) → pair_tree tables ds ≡ Some p → PairRead ds p
    picked : (p : Picked) → picked_tree tables ds ≡ Some p → PickedRead ds p
    list : (ts : List Source) → tree_list tables ds ≡ Some ts → ListRead ds ts
    cases : (cs : List SourceCase) → case_list tables ds ≡ Some cs → CasesRead ds cs

  abbrev Is : NodeName → Items → Source → Type 0
  Is name ds t = HasForm tables t × (node_json (node_name name) ds ≡ json_of t)

  has_no_table : (name : OneName) → HasTable tables (op_of_name name)
  has_no_table one_names.Not = tt
  has_no_table name = tt

  node_found : (name : NodeName) (ds : Items) (t : Source) → OperandsRead ds → node_of tables name ds (only_tree tables ds) (pair_tree tables ds) (picked_tree tables ds) (tree_list tables ds) (case_list tables ds) ≡ Some t → Is name ds t
  node_found (names.Constant kind) ds t r e =
      let a = mapped _ (constant_of kind ds) t e in
      rw a.2 (tt, constant_found kind ds a.0 a.1)
  node_found (names.Read op) ds t r e =
      let a = mapped _ (one_text ds) t e in
      rw a.2 (is_use a.0, ap (node_json (read_name op)) (one_text_is ds a.0 a.1))
  node_found names.Switch ds t r e =
      let a = mapped _ (option_and_then (at_least 1) (case_list tables ds)) t e in
      let b = both_some (at_least 1) (case_list tables ds) a.0 a.1 in
      let f = at_least_some 1 b.0 a.0 b.2 in
      let l = r.cases a.0 (b.1 ∙ ap Some f.1) in
      rw a.2 ((are_cases a.0 f.0, l.0), ap (node_json (codes "Switch")) l.1)
  node_found (names.Many op) ds t r e =
      let a = mapped _ (option_and_then (at_least (fewest op)) (tree_list tables ds)) t e in
      let b = both_some (at_least (fewest op)) (tree_list tables ds) a.0 a.1 in
      let f = at_least_some (fewest op) b.0 a.0 b.2 in
      let l = r.list a.0 (b.1 ∙ ap Some f.1) in
      rw a.2 ((are_enough op a.0 f.0, l.0), ap (node_json (many_name op)) l.1)
  node_found (names.One name) ds t r e =
      let a = mapped _ (only_tree tables ds) t e in
      let l = r.only a.0 a.1 in
      rw a.2 ((has_no_table name, l.0), ap (node_json (one_name (op_of_name name))) l.1 ∙ sym (named_json name (json_of a.0)))
  node_found (names.Two op) ds t r e =
      let a = mapped _ (pair_tree tables ds) t e in
      let l = r.pair a.0 a.1 in
      rw a.2 ((l.0, l.1), ap (node_json (two_name op)) l.2)
  node_found (names.Pick op) ds t r e =
      let a = mapped _ (picked_tree tables ds) t e in
      let l = r.picked a.0 a.1 in
      rw a.2 ((is_use a.0.0, l.0), ap (node_json (pick_name op)) l.1)
  node_found names.Lookup ds t r e =
      let o = mapped _ (option_and_then (looked_of tables) (picked_tree tables ds)) t e in
      let a = both_some (looked_of tables) (picked_tree tables ds) o.0 o.1 in
      let b = mapped _ (table_named a.0.0 tables) o.0 a.2 in
      let l = r.picked a.0 a.1 in
      let same : a.0.0 ≡ b.0.name = table_has_name a.0.0 tables b.0 b.1 in
      let json : List ℕ → Data = λ name. node_json (codes "Lookup") (two_items (string name) (json_of a.0.1)) in
      rw (o.2, b.2) ((subst (λ (name : List ℕ). table_named name tables ≡ Some b.0) same b.1, l.0), ap (node_json (codes "Lookup")) l.1 ∙ ap json same)

  array_found : (d : Data) (ds : Items) (t : Source) → OperandsRead ds → array_tree tables (item d ds) ≡ Some t → Spells tables (array (item d ds)) t
  array_found d ds t r e =
      let a = both_some _ (option_and_then node_named (as_str d)) t e in
      let b = both_some node_named (as_str d) a.0 a.1 in
      let n = node_found a.0 ds t r a.2 in
      let named : d ≡ string (node_name a.0) = text_is d b.0 b.1 ∙ ap string (node_named_some b.0 a.0 b.2) in
      (n.0, ap (λ (x : Data). array (item x ds)) named ∙ n.1)

  mutual
    pub found : (d : Data) (t : Source) → tree_of tables d ≡ Some t → Spells tables d t
    found (array (item d ds)) t e = array_found d ds t (record { only = only_found ds; pair = pair_found ds; picked = picked_found ds; list = list_found ds; cases = cases_found ds }) e
    found d t e = absurd cc

    only_found : (ds : Items) (t : Source) → only_tree tables ds ≡ Some t → HasForm tables t × (ds ≡ item (json_of t) no_items)
    only_found (item d no_items) t e = let h = found d t e in (h.0, ap (λ (x : Data). item x no_items) h.1)
    only_found ds t e = absurd cc

    pub pair_found : (ds : Items) (p : SourceCase) → pair_tree tables ds ≡ Some p → PairRead ds p
    pair_found (item d (item f no_items)) p e =
        let a = both_some _ (tree_of tables d) p e in
        let b = mapped _ (tree_of tables f) p a.2 in
        let h = found d a.0 a.1 in
        let k = found f b.0 b.1 in
        rw b.2 (h.0, k.0, ap (λ (x : Data). two_items x f) h.1 ∙ ap (two_items (json_of a.0)) k.1)
    pair_found ds p e = absurd cc

    picked_found : (ds : Items) (p : Picked) → picked_tree tables ds ≡ Some p → PickedRead ds p
    picked_found (item d (item f no_items)) p e =
        let a = both_some _ (as_str d) p e in
        let b = mapped _ (tree_of tables f) p a.2 in
        let k = found f b.0 b.1 in
        rw b.2 (k.0, ap (λ (x : Data). two_items x f) (text_is d a.0 a.1) ∙ ap (two_items (string a.0)) k.1)
    picked_found ds p e = absurd cc

    list_found : (ds : Items) (ts : List Source) → tree_list tables ds ≡ Some ts → ListRead ds ts
    list_found no_items ts e = subst (ListRead no_items) (same_Some [] ts e) (tt, refl)
    list_found (item d ds) ts e =
        let a = both_some _ (tree_of tables d) ts e in
        let b = mapped _ (tree_list tables ds) ts a.2 in
        let h = found d a.0 a.1 in
        let l = list_found ds b.0 b.1 in
        rw b.2 ((h.0, l.0), ap (λ (x : Data). item x ds) h.1 ∙ ap (item (json_of a.0)) l.1)

    case_found : (d : Data) (p : SourceCase) → case_of tables d ≡ Some p → HasForm tables p.0 × HasForm tables p.1 × (d ≡ case_json p)
    case_found (array (item d ds)) p e =
        let g = case_guard (is_text (codes "Case") (as_str d)) (pair_tree tables ds) p e in
        let h = pair_found ds p g.1 in
        (h.0, h.1, ap (λ (x : Data). array (item x ds)) (word_is (codes "Case") d g.0) ∙ ap (node_json (codes "Case")) h.2)
    case_found d p e = absurd cc

    cases_found : (ds : Items) (cs : List SourceCase) → case_list tables ds ≡ Some cs → CasesRead ds cs
    cases_found no_items cs e = subst (CasesRead no_items) (same_Some [] cs e) (tt, refl)
    cases_found (item d ds) cs e =
        let a = both_some _ (case_of tables d) cs e in
        let b = mapped _ (case_list tables ds) cs a.2 in
        let h = case_found d a.0 a.1 in
        let l = cases_found ds b.0 b.1 in
        rw b.2 ((h.0, h.1, l.0), ap (λ (x : Data). item x ds) h.2 ∙ ap (item (case_json a.0)) l.1)

  -- ---- what is spelled is read

  -- a node's name leads to its operands
  named : (name : NodeName) (ds : Items) → array_tree tables (item (string (node_name name)) ds) ≡ node_of tables name ds (only_tree tables ds) (pair_tree tables ds) (picked_tree tables ds) (tree_list tables ds) (case_list tables ds)
  named name ds = rw (node_named-node_name name) refl

  literal_again : (l : Literal) → tree_of tables (literal_json l) ≡ Some (literal l)
  literal_again literal_true = refl
  literal_again l = refl

  mutual
    pub again : (t : Source) → HasForm tables t → tree_of tables (json_of t) ≡ Some t
    again (literal l) h = literal_again l
    again (read r) h = named (names.Read r.0) (item (string r.1.text) no_items) ∙ rw (use_again r.1 h) refl
    again (switch cs) h = named names.Switch (json_of_cases cs) ∙ rw (cases_again cs h.1, some_cases cs h.0, from_cases cs) refl
    again (many op ts) h = named (names.Many op) (json_of_trees ts) ∙ rw (list_again ts h.1, enough_list op ts h.0, from_list ts) refl
    again (one ones.Not t) h = named (names.One one_names.Not) (item (json_of t) no_items) ∙ rw (again t h.1) refl
    again (one ones.Round t) h = named (names.One one_names.Round) (item (json_of t) no_items) ∙ rw (again t h.1) refl
    again (one ones.YearOf t) h = named (names.One one_names.YearOf) (item (json_of t) no_items) ∙ rw (again t h.1) refl
    again (one ones.MonthOf t) h = named (names.One one_names.MonthOf) (item (json_of t) no_items) ∙ rw (again t h.1) refl
    again (one ones.DayOf t) h = named (names.One one_names.DayOf) (item (json_of t) no_items) ∙ rw (again t h.1) refl
    again (one (ones.Lookup table) t) h = named names.Lookup (two_items (string table.name) (json_of t)) ∙ rw (again t h.1, h.0) refl
    again (two op a b) h = named (names.Two op) (item (json_of a) (item (json_of b) no_items)) ∙ rw (again a h.0, again b h.1) refl
    again (pick op p t) h = named (names.Pick op) (item (string p.text) (item (json_of t) no_items)) ∙ rw (again t h.1, use_again p h.0) refl

    list_again : (ts : Sources) → HaveForms tables ts → tree_list tables (json_of_trees ts) ≡ Some (list_from ts)
    list_again no_trees h = refl
    list_again (tree t ts) h = rw (again t h.0, list_again ts h.1) refl

    cases_again : (cs : SourceCases) → HaveCaseForms tables cs → case_list tables (json_of_cases cs) ≡ Some (cases_from cs)
    cases_again no_cases h = refl
    cases_again (a_case t o cs) h = rw (again t h.0, again o h.1, cases_again cs h.2) refl

  pub spelled_again : (d : Data) (t : Source) → Spells tables d t → tree_of tables d ≡ Some t
  spelled_again d t h = ap (tree_of tables) h.1 ∙ again t h.0
