-- Which facts a source takes, as a test that computes.
use Rattle.std.specs.Prelude.{Bool, true, false, ◌&&◌, bytes_eq, is_none, List, [], ◌∷◌, ◌++◌, Option, Some, None}
use Rattle.fact_paths.specs.Names.{is_name}
use Rattle.fact_paths.specs.Parsing.{fact_path_of, use_path_of}
use Rattle.fact_paths.specs.declared.fact_path.FactPath.{FactPath}
use Rattle.fact_paths.specs.declared.use_path.UsePath.{UsePath}
use Rattle.fact_paths.specs.declared.use_path.UsePath.TheVariants.{Global, Sibling, Inner, Each, Through, SiblingThrough}
use Rattle.fact_values.specs.declared.fact_type.FactType.{FactType}
use Rattle.fact_values.specs.declared.fact_type.FactType.TheVariants as types
use Rattle.dict_source.specs.declared.operators.ManyOp.{ManyOp}
use Rattle.dict_source.specs.declared.operators.ManyOp.TheVariants as many_op
use Rattle.dict_source.specs.declared.operators.OneOp.{OneOp}
use Rattle.dict_source.specs.declared.operators.OneOp.TheVariants as one_op
use Rattle.dict_source.specs.Tree.{Use, Source, Sources, SourceCases, literal, read, switch, many, one, two, pick, no_trees, tree, no_cases, a_case}
use Rattle.dict_source.specs.Facts.{Bound, Fact, Stated, enum_of, item_of, list_of, scalar, writable_list}
use Rattle.dict_source.specs.Dictionary.{Dictionary, too_deep, too_many, with_fact}
use Rattle.dict_source.specs.Finding.{is_path}

-- ---- uses: the path is the one that is read from the text

abbrev pub same_use : UsePath → UsePath → Bool
same_use (Global n) (Global m) = bytes_eq n m
same_use (Sibling n) (Sibling m) = bytes_eq n m
same_use (Inner n) (Inner m) = bytes_eq n m
same_use (Each n m) (Each k l) = bytes_eq n k && bytes_eq m l
same_use (Through n m) (Through k l) = bytes_eq n k && bytes_eq m l
same_use (SiblingThrough n m) (SiblingThrough k l) = bytes_eq n k && bytes_eq m l
same_use _ _ = false

abbrev pub same_option : Option UsePath → Option UsePath → Bool
same_option None None = true
same_option (Some p) (Some q) = same_use p q
same_option _ _ = false

abbrev pub is_read_use : Use → Bool
is_read_use u = same_option u.path (use_path_of u.text)

-- ---- expressions: each node has as many operands as it may have

abbrev pub are_some : Sources → Bool
are_some no_trees = false
are_some (tree t ts) = true

abbrev pub are_two : Sources → Bool
are_two no_trees = false
are_two (tree t ts) = are_some ts

abbrev pub are_enough : ManyOp → Sources → Bool
are_enough many_op.Subtract ts = are_two ts
are_enough _ ts = are_some ts

-- a name alone stands for it, since no source has tables
abbrev pub has_name : OneOp → Bool
has_name (one_op.Lookup t) = false
has_name op = true

abbrev pub are_cases : SourceCases → Bool
are_cases no_cases = false
are_cases (a_case t o cs) = true

abbrev mutual
  pub has_form : Source → Bool
  has_form (literal c) = true
  has_form (read r) = is_read_use r.1
  has_form (switch cs) = are_cases cs && have_case_forms cs
  has_form (many op ts) = are_enough op ts && have_forms ts
  has_form (one op t) = has_name op && has_form t
  has_form (two op a b) = has_form a && has_form b
  has_form (pick op p t) = is_read_use p && has_form t

  pub have_forms : Sources → Bool
  have_forms no_trees = true
  have_forms (tree t ts) = has_form t && have_forms ts

  pub have_case_forms : SourceCases → Bool
  have_case_forms no_cases = true
  have_case_forms (a_case t o cs) = has_form t && (has_form o && have_case_forms cs)

-- ---- facts without a conditional and a placeholder

abbrev pub is_scalar : FactType → Bool
is_scalar (types.Enum n) = false
is_scalar (types.Collection c) = false
is_scalar (types.Item c) = false
is_scalar _ = true

-- the name of a list of options is a name
abbrev pub is_named : Stated → Bool
is_named (enum_of n) = is_name n
is_named _ = true

abbrev pub is_writable_type : Stated → Bool
is_writable_type (scalar t) = is_scalar t
is_writable_type (enum_of n) = true
is_writable_type writable_list = true
is_writable_type _ = false

abbrev pub is_derived_type : Stated → Bool
is_derived_type (scalar t) = is_scalar t
is_derived_type (enum_of n) = true
is_derived_type writable_list = false
is_derived_type (list_of u) = is_read_use u
is_derived_type (item_of u) = is_read_use u

abbrev pub has_none : List Bound → Bool
has_none [] = true
has_none (b ∷ bs) = false

abbrev pub has_kind : Fact → Option Source → Bool
has_kind f None = is_writable_type f.stated
has_kind f (Some t) = is_derived_type f.stated && (has_form t && has_none f.limits)

-- the path is the one that is read from its text
abbrev pub same_path_option : Option FactPath → Option FactPath → Bool
same_path_option (Some p) o = is_path p o
same_path_option None o = is_none o

abbrev pub has_path : Fact → Bool
has_path f = same_path_option f.path (fact_path_of f.path_text)

abbrev pub is_well_formed : Fact → Bool
is_well_formed f = has_path f && (has_kind f f.main && (is_none f.conditional && is_none f.placeholder))

-- ---- sources

abbrev pub is_within : Dictionary → Bool
is_within d = is_none (too_many d) && is_none (too_deep d)

abbrev pub takes : Dictionary → Fact → Bool
takes d f = is_named f.stated && (is_well_formed f && is_within (with_fact d f))

-- one after the other
abbrev pub takes_all : Dictionary → List Fact → Bool
takes_all d [] = true
takes_all d (f ∷ fs) = takes d f && takes_all (with_fact d f) fs

abbrev pub with_facts : Dictionary → List Fact → Dictionary
with_facts d fs = record { enums = d.enums; tables = d.tables; facts = d.facts ++ fs }
