-- What the test of a fact tells.
use Rattle.std.proofs.Common.{◌≡◌, ℕ, ◌&&◌, IsTrue, bytes_eq, List, [], ◌∷◌, Option, Some, None, Err, refl, sym, ap, ◌∙◌, subst, append-nil, append_assoc}
use Rattle.std.specs.Prelude.{is_none}
use Rattle.common_lemmas.proofs.Bools.{both}
use Rattle.common_lemmas.proofs.Bytes.{same_bytes}
use Rattle.fact_paths.specs.Paths.{Reads, SpellsFactPath}
use Rattle.fact_paths.specs.declared.fault.PathFault.{PathFault}
use Rattle.fact_paths.specs.declared.fault.PathFault.TheVariants.{BadPath, NoMemory}
use Rattle.fact_paths.specs.Parsing.{fact_path_of, use_path_of}
use Rattle.fact_paths.specs.declared.fact_path.FactPath.{FactPath}
use Rattle.fact_paths.specs.declared.use_path.UsePath.{UsePath}
use Rattle.fact_paths.specs.declared.use_path.UsePath.TheVariants.{Global, Sibling, Inner, Each, Through, SiblingThrough}
use Rattle.fact_paths.proofs.FactPathLaws.{fact_path_reading}
use Rattle.fact_values.specs.declared.fact_type.FactType.{FactType}
use Rattle.fact_values.specs.declared.fact_type.FactType.TheVariants as types
use Rattle.dict_source.specs.declared.operators.ManyOp.{ManyOp}
use Rattle.dict_source.specs.declared.operators.ManyOp.TheVariants.{All, Any, Add, Subtract, GreaterOf, LesserOf}
use Rattle.dict_source.specs.Tree.{Use, Source, Sources, SourceCases, literal, read, switch, many, one, two, pick, no_trees, tree, no_cases, a_case}
use Rattle.dict_source.specs.Facts.{Bound, Fact, Stated, enum_of, item_of, list_of, scalar, writable_list}
use Rattle.dict_source.specs.Tables.{LookupTable}
use Rattle.dict_source.specs.declared.operators.OneOp.{OneOp}
use Rattle.dict_source.specs.declared.operators.OneOp.TheVariants as ones
use Rattle.dict_source.specs.Forms.{AreCases, AreEnough, AreSome, AreTwo, HasConditionalForm, HasForm, HasKind, HasOptionForm, HasTable, HaveCaseForms, HaveForms, IsDerivedType, IsScalar, IsUse, IsWellFormed, IsWritableType}
use Rattle.dict_source.specs.Dictionary.{Dictionary, IsWithinLimits, too_deep, too_many, with_fact}
use Rattle.fact_json.proofs.ExprLaws.{is_use}
use Rattle.dict_source.proofs.FindingLaws.{is_path-is}
use Rattle.dict_source.proofs.UseLaws.{fact_path_from}
use Rattle.written_facts.specs.Taking.{are_cases, are_enough, are_some, are_two, has_form, has_name, has_kind, has_none, has_path, have_case_forms, have_forms, is_derived_type, is_named, is_read_use, is_scalar, is_well_formed, is_within, is_writable_type, same_option, same_path_option, same_use, takes, takes_all, with_facts}

-- ---- uses

pairs : (f : List ℕ → List ℕ → UsePath) (n m k l : List ℕ) → IsTrue (bytes_eq n k && bytes_eq m l) → f n m ≡ f k l
pairs f n m k l h =
    let parts = both (bytes_eq n k) (bytes_eq m l) h in
    let first = same_bytes n k parts.0 in
    let second = same_bytes m l parts.1 in
    rw (first, second) refl

one_use : (p q : UsePath) → IsTrue (same_use p q) → p ≡ q
one_use (Global n) (Global m) h = ap Global (same_bytes n m h)
one_use (Sibling n) (Sibling m) h = ap Sibling (same_bytes n m h)
one_use (Inner n) (Inner m) h = ap Inner (same_bytes n m h)
one_use (Each n m) (Each k l) h = pairs Each n m k l h
one_use (Through n m) (Through k l) h = pairs Through n m k l h
one_use (SiblingThrough n m) (SiblingThrough k l) h = pairs SiblingThrough n m k l h
one_use _ _ h = absurd cc

one_option : (p q : Option UsePath) → IsTrue (same_option p q) → p ≡ q
one_option None None h = refl
one_option (Some p) (Some q) h = ap Some (one_use p q h)
one_option _ _ h = absurd cc

read_use : (u : Use) → IsTrue (is_read_use u) → IsUse u
read_use u h =
    let same = one_option u.path (use_path_of u.text) h in
    subst (λ o. IsUse (record { text = u.text; path = o })) (sym same) (is_use u.text)

-- ---- expressions

some_are : (ts : Sources) → IsTrue (are_some ts) → AreSome ts
some_are no_trees h = absurd cc
some_are (tree t ts) h = tt

two_are : (ts : Sources) → IsTrue (are_two ts) → AreTwo ts
two_are no_trees h = absurd cc
two_are (tree t ts) h = some_are ts h

enough : (op : ManyOp) (ts : Sources) → IsTrue (are_enough op ts) → AreEnough op ts
enough All ts h = some_are ts h
enough Any ts h = some_are ts h
enough Add ts h = some_are ts h
enough Subtract ts h = two_are ts h
enough GreaterOf ts h = some_are ts h
enough LesserOf ts h = some_are ts h

cases : (cs : SourceCases) → IsTrue (are_cases cs) → AreCases cs
cases no_cases h = absurd cc
cases (a_case t o cs) h = tt

module _ (tables : List LookupTable) where
  no_table : (op : OneOp) → IsTrue (has_name op) → HasTable tables op
  no_table ones.Not h = tt
  no_table ones.Round h = tt
  no_table ones.YearOf h = tt
  no_table ones.MonthOf h = tt
  no_table ones.DayOf h = tt
  no_table (ones.Lookup t) h = absurd cc

  mutual
    formed : (t : Source) → IsTrue (has_form t) → HasForm tables t
    formed (literal c) h = tt
    formed (read r) h = read_use r.1 h
    formed (switch cs) h = let p = both (are_cases cs) (have_case_forms cs) h in (cases cs p.0, formed_cases cs p.1)
    formed (many op ts) h = let p = both (are_enough op ts) (have_forms ts) h in (enough op ts p.0, formed_all ts p.1)
    formed (one op t) h = let p = both (has_name op) (has_form t) h in (no_table op p.0, formed t p.1)
    formed (two op a b) h = let p = both (has_form a) (has_form b) h in (formed a p.0, formed b p.1)
    formed (pick op u t) h = let p = both (is_read_use u) (has_form t) h in (read_use u p.0, formed t p.1)

    formed_all : (ts : Sources) → IsTrue (have_forms ts) → HaveForms tables ts
    formed_all no_trees h = tt
    formed_all (tree t ts) h = let p = both (has_form t) (have_forms ts) h in (formed t p.0, formed_all ts p.1)

    formed_cases : (cs : SourceCases) → IsTrue (have_case_forms cs) → HaveCaseForms tables cs
    formed_cases no_cases h = tt
    formed_cases (a_case t o cs) h =
        let p = both (has_form t) (has_form o && have_case_forms cs) h in
        let q = both (has_form o) (have_case_forms cs) p.1 in
        (formed t p.0, formed o q.0, formed_cases cs q.1)

-- ---- facts

scalar_is : (t : FactType) → IsTrue (is_scalar t) → IsScalar t
scalar_is types.Boolean h = tt
scalar_is types.Int h = tt
scalar_is types.Dollar h = tt
scalar_is types.Rational h = tt
scalar_is types.Day h = tt
scalar_is types.Text h = tt
scalar_is _ h = absurd cc

writable : (s : Stated) → IsTrue (is_writable_type s) → IsWritableType s
writable (scalar t) h = scalar_is t h
writable (enum_of n) h = tt
writable writable_list h = tt
writable _ h = absurd cc

derived : (s : Stated) → IsTrue (is_derived_type s) → IsDerivedType s
derived (scalar t) h = scalar_is t h
derived (enum_of n) h = tt
derived (list_of u) h = read_use u h
derived (item_of u) h = read_use u h
derived writable_list h = absurd cc

none_are : (bs : List Bound) → IsTrue (has_none bs) → bs ≡ []
none_are [] h = refl
none_are (b ∷ bs) h = absurd cc

one_path : (p q : Option FactPath) → IsTrue (same_path_option p q) → q ≡ p
one_path (Some p) q h = is_path-is p q h
one_path None q h = nothing_is q h
  where
    nothing_is : (q : Option FactPath) → IsTrue (is_none q) → q ≡ None
    nothing_is None h = refl
    nothing_is (Some q) h = absurd cc

no_conditional : (o : Option (Source × Source)) → IsTrue (is_none o) → o ≡ None
no_conditional None h = refl
no_conditional (Some c) h = absurd cc

module _ (tables : List LookupTable) where
  kind : (f : Fact) (main : Option Source) → f.conditional ≡ None → IsTrue (has_kind f main) → HasKind tables f main
  kind f None c h = (writable f.stated h, c)
  kind f (Some t) c h =
      let p = both (is_derived_type f.stated) (has_form t && has_none f.limits) h in
      let q = both (has_form t) (has_none f.limits) p.1 in
      (derived f.stated p.0, formed tables t q.0, none_are f.limits q.1)

  no_placeholder : (o : Option Source) → IsTrue (is_none o) → HasOptionForm tables o
  no_placeholder None h = tt
  no_placeholder (Some t) h = absurd cc

  no_conditional_form : (o : Option (Source × Source)) → IsTrue (is_none o) → HasConditionalForm tables o
  no_conditional_form None h = tt
  no_conditional_form (Some t) h = absurd cc

  well_formed : (f : Fact) → IsTrue (is_well_formed f) → IsWellFormed tables f
  well_formed f h =
      let p = both (has_path f) (has_kind f f.main && (is_none f.conditional && is_none f.placeholder)) h in
      let q = both (has_kind f f.main) (is_none f.conditional && is_none f.placeholder) p.1 in
      let r = both (is_none f.conditional) (is_none f.placeholder) q.1 in
      record {
        path = fact_path_from f.path_text f.path (one_path f.path (fact_path_of f.path_text) p.0);
        kind = kind f f.main (no_conditional f.conditional r.0) q.0;
        conditional = no_conditional_form f.conditional r.0;
        placeholder = no_placeholder f.placeholder r.1;
      }

none_is : (o : Option ℕ) → IsTrue (is_none o) → o ≡ None
none_is None h = refl
none_is (Some n) h = absurd cc

pub taken_name : (d : Dictionary) (f : Fact) → IsTrue (takes d f) → IsTrue (is_named f.stated)
taken_name d f h = (both (is_named f.stated) (is_well_formed f && is_within (with_fact d f)) h).0

taken_rest : (d : Dictionary) (f : Fact) → IsTrue (takes d f) → IsTrue (is_well_formed f) × IsTrue (is_within (with_fact d f))
taken_rest d f h = both (is_well_formed f) (is_within (with_fact d f)) (both (is_named f.stated) (is_well_formed f && is_within (with_fact d f)) h).1

pub taken_form : (d : Dictionary) (f : Fact) → IsTrue (takes d f) → IsWellFormed d.tables f
taken_form d f h = well_formed d.tables f (taken_rest d f h).0

pub taken_limits : (d : Dictionary) (f : Fact) → IsTrue (takes d f) → IsWithinLimits (with_fact d f)
taken_limits d f h =
    let p = both (is_none (too_many (with_fact d f))) (is_none (too_deep (with_fact d f))) (taken_rest d f h).1 in
    record { many = none_is (too_many (with_fact d f)) p.0; deep = none_is (too_deep (with_fact d f)) p.1 }

-- ---- one after the other

pub first_taken : (d : Dictionary) (f : Fact) (fs left : List Fact) → left ≡ f ∷ fs → IsTrue (takes_all d left) → IsTrue (takes d f)
first_taken d f fs left e h = (both (takes d f) (takes_all (with_fact d f) fs) (subst (λ l. IsTrue (takes_all d l)) e h)).0

pub rest_taken : (d : Dictionary) (f : Fact) (fs left : List Fact) → left ≡ f ∷ fs → IsTrue (takes_all d left) → IsTrue (takes_all (with_fact d f) fs)
rest_taken d f fs left e h = (both (takes d f) (takes_all (with_fact d f) fs) (subst (λ l. IsTrue (takes_all d l)) e h)).1

pub one_more : (d : Dictionary) (f : Fact) (fs left : List Fact) → left ≡ f ∷ fs → with_facts d left ≡ with_facts (with_fact d f) fs
one_more d f fs left e =
    ap (with_facts d) e ∙ ap (λ l. record { enums = d.enums; tables = d.tables; facts = l }) (sym (append_assoc d.facts (f ∷ []) fs))

pub all_more : (d : Dictionary) (left : List Fact) → left ≡ [] → with_facts d left ≡ d
all_more d left e = ap (with_facts d) e ∙ ap (λ l. record { enums = d.enums; tables = d.tables; facts = l }) (append-nil d.facts)

-- ---- paths of facts

none_read : (text : List ℕ) (o : Option FactPath) → ((p : FactPath) → ¬ SpellsFactPath text p) → fact_path_of text ≡ o → None ≡ o
none_read text None h e = refl
none_read text (Some p) h e = absurd (h p (fact_path_reading.sound text p e))

pub no_path : (text : List ℕ) (e : PathFault) → e ≡ BadPath → Reads SpellsFactPath text (Err e) → None ≡ fact_path_of text
no_path text BadPath is none = none_read text (fact_path_of text) none refl
no_path text NoMemory is none = absurd cc
