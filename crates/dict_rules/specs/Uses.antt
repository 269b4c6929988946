-- The uses of paths in a fact, each with its operator, and with the condition that it stands under.
use Rattle.std.specs.Prelude.{ℕ, Bool, true, false, ◌||◌, List, [], ◌∷◌, ◌++◌, Option, Some, None, unwrap_or}
use Rattle.dict_source.specs.declared.operators.ReadOp.TheVariants as reads
use Rattle.dict_source.specs.Tree.{Use, Source, Sources, SourceCase, SourceCases, literal, read, switch, many, one, two, pick, no_trees, tree, no_cases, a_case}
use Rattle.dict_source.specs.Facts.{Fact}
use Rattle.dict_source.specs.Dictionary.{Dictionary}
use Rattle.dict_source.specs.Mentions.{condition_base}
use Rattle.dict_rules.specs.declared.use_op.UseOp.{UseOp}
use Rattle.dict_rules.specs.declared.use_op.UseOp.TheVariants.{Read, Pick}

-- The innermost condition over a node: None outside of all conditions, else the number of the fact of the collection over
-- whose members it stands, and 0 where that isn't known.
abbrev pub Condition : Type 0
Condition = Option ℕ

abbrev pub base_of : Condition → ℕ
base_of condition = unwrap_or condition 0

-- ---- operators

-- the nodes that read one fact
abbrev pub reads_fact : UseOp → Bool
reads_fact (Read reads.Dependency) = true
reads_fact (Read reads.IsComplete) = true
reads_fact (Read reads.CollectionSize) = false
reads_fact (Read reads.CollectionSum) = false
reads_fact (Read reads.Count) = false
reads_fact (Pick op) = false

-- the nodes that read a field of each member
abbrev pub reads_each : UseOp → Bool
reads_each (Read reads.Dependency) = false
reads_each (Read reads.IsComplete) = false
reads_each (Read reads.CollectionSize) = false
reads_each (Read reads.CollectionSum) = true
reads_each (Read reads.Count) = true
reads_each (Pick op) = false

-- the nodes that go through members: Filter, Find, CollectionSum and Count
abbrev pub goes_through_members : UseOp → Bool
goes_through_members (Read op) = reads_each (Read op)
goes_through_members (Pick op) = true

-- the nodes that read a collection
abbrev pub reads_collection : UseOp → Bool
reads_collection (Read reads.Dependency) = false
reads_collection (Read reads.IsComplete) = false
reads_collection (Read reads.CollectionSize) = true
reads_collection (Read reads.CollectionSum) = true
reads_collection (Read reads.Count) = true
reads_collection (Pick op) = true

-- ---- uses

-- a test of a use
abbrev pub UseTest : Type 0
UseTest = UseOp → Condition → Use → Bool

-- the condition of a node that picks members, from the condition over the node and from its path
abbrev pub condition_under : Dictionary → ℕ → Condition → Use → Condition
condition_under d fact c p = Some (condition_base d fact (base_of c) p.path)

-- whether a use in the expression passes the test
abbrev mutual
  pub has_use : UseTest → Dictionary → ℕ → Condition → Source → Bool
  has_use test d fact c (literal l) = false
  has_use test d fact c (read r) = test (Read r.0) c r.1
  has_use test d fact c (switch cs) = cases_have_use test d fact c cs
  has_use test d fact c (many op ts) = some_have_use test d fact c ts
  has_use test d fact c (one op t) = has_use test d fact c t
  has_use test d fact c (two op a b) = has_use test d fact c a || has_use test d fact c b
  has_use test d fact c (pick op p t) = test (Pick op) c p || has_use test d fact (condition_under d fact c p) t

  pub some_have_use : UseTest → Dictionary → ℕ → Condition → Sources → Bool
  some_have_use test d fact c no_trees = false
  some_have_use test d fact c (tree t ts) = has_use test d fact c t || some_have_use test d fact c ts

  pub cases_have_use : UseTest → Dictionary → ℕ → Condition → SourceCases → Bool
  cases_have_use test d fact c no_cases = false
  cases_have_use test d fact c (a_case t o cs) = has_use test d fact c t || (has_use test d fact c o || cases_have_use test d fact c cs)

abbrev pub option_has_use : UseTest → Dictionary → ℕ → Option Source → Bool
option_has_use test d fact None = false
option_has_use test d fact (Some t) = has_use test d fact None t

abbrev pub conditional_has_use : UseTest → Dictionary → ℕ → Option SourceCase → Bool
conditional_has_use test d fact None = false
conditional_has_use test d fact (Some c) = has_use test d fact None c.0 || has_use test d fact None c.1

-- whether a use in the main expression, in the conditional or in the placeholder passes the test
abbrev pub fact_has_use : UseTest → Dictionary → ℕ → Fact → Bool
fact_has_use test d fact f = option_has_use test d fact f.main || (conditional_has_use test d fact f.conditional || option_has_use test d fact f.placeholder)

-- ---- the uses one by one

-- a use, with its operator, and with the condition that it stands under
pub record UseAt : Type 0 where
  pub use_op : UseOp
  pub condition : Condition
  pub used : Use

abbrev pub use_at : UseOp → Condition → Use → UseAt
use_at use_op c u = record { use_op = use_op; condition = c; used = u }

-- in preorder
abbrev mutual
  pub uses_in : Dictionary → ℕ → Condition → Source → List UseAt
  uses_in d fact c (literal l) = []
  uses_in d fact c (read r) = use_at (Read r.0) c r.1 ∷ []
  uses_in d fact c (switch cs) = uses_in_cases d fact c cs
  uses_in d fact c (many op ts) = uses_in_all d fact c ts
  uses_in d fact c (one op t) = uses_in d fact c t
  uses_in d fact c (two op a b) = uses_in d fact c a ++ uses_in d fact c b
  uses_in d fact c (pick op p t) = use_at (Pick op) c p ∷ uses_in d fact (condition_under d fact c p) t

  pub uses_in_all : Dictionary → ℕ → Condition → Sources → List UseAt
  uses_in_all d fact c no_trees = []
  uses_in_all d fact c (tree t ts) = uses_in d fact c t ++ uses_in_all d fact c ts

  pub uses_in_cases : Dictionary → ℕ → Condition → SourceCases → List UseAt
  uses_in_cases d fact c no_cases = []
  uses_in_cases d fact c (a_case t o cs) = uses_in d fact c t ++ (uses_in d fact c o ++ uses_in_cases d fact c cs)

abbrev pub option_uses : Dictionary → ℕ → Option Source → List UseAt
option_uses d fact None = []
option_uses d fact (Some t) = uses_in d fact None t

abbrev pub conditional_uses : Dictionary → ℕ → Option SourceCase → List UseAt
conditional_uses d fact None = []
conditional_uses d fact (Some c) = uses_in d fact None c.0 ++ uses_in d fact None c.1

-- in the main expression, then in the conditional, then in the placeholder
abbrev pub fact_uses : Dictionary → ℕ → Fact → List UseAt
fact_uses d fact f = option_uses d fact f.main ++ (conditional_uses d fact f.conditional ++ option_uses d fact f.placeholder)
