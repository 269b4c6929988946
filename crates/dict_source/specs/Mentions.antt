-- Which facts a fact mentions.
use Rattle.std.specs.Prelude.{ℕ, Bool, true, false, List, [], ◌∷◌, ◌++◌, Option, Some, None, option_and_then, unwrap_or}
use Rattle.fact_paths.specs.declared.use_path.UsePath.{UsePath}
use Rattle.fact_paths.specs.declared.use_path.UsePath.TheVariants.{Global, Sibling, Inner, Each, Through, SiblingThrough}
use Rattle.dict_source.specs.Tree.{Source, Sources, SourceCase, SourceCases, literal, read, switch, many, one, two, pick, no_trees, tree, no_cases, a_case}
use Rattle.dict_source.specs.Facts.{Fact}
use Rattle.dict_source.specs.Dictionary.{Dictionary}
use Rattle.dict_source.specs.Targets.{find_global, first_target, list_base_at, targets}
use Rattle.dict_source.specs.declared.mentions.Mention.{Mention}

-- ---- of one use path, in a fact, under a condition over a base or with the base 0

-- whether the first target is meant of the same member: Same, and else Any
abbrev pub is_same : UsePath → Bool
is_same (Global n) = false
is_same (Sibling n) = true
is_same (Inner n) = false
is_same (Each n m) = false
is_same (Through n m) = false
is_same (SiblingThrough n m) = true

abbrev pub mention_of : Bool → Option ℕ → List Mention
mention_of same None = []
mention_of same (Some n) = record { fact = n; same = same } ∷ []

-- both targets; the second one's mention is Any
abbrev pub use_mentions : Dictionary → ℕ → ℕ → Option UsePath → List Mention
use_mentions d fact base None = []
use_mentions d fact base (Some path) = mention_of (is_same path) (targets d fact base path).first ++ mention_of false (targets d fact base path).second

-- the base of the condition that is asked of the members that the path lists: 0 where none is known
abbrev pub condition_base : Dictionary → ℕ → ℕ → Option UsePath → ℕ
condition_base d fact base None = 0
condition_base d fact base (Some path) = unwrap_or (option_and_then (find_global d) (option_and_then (list_base_at d) (first_target d fact base path))) 0

-- ---- of an expression, in preorder

abbrev mutual
  pub mentions : Dictionary → ℕ → ℕ → Source → List Mention
  mentions d fact base (literal c) = []
  mentions d fact base (read r) = use_mentions d fact base r.1.path
  mentions d fact base (switch cs) = case_mentions d fact base cs
  mentions d fact base (many op ts) = tree_mentions d fact base ts
  mentions d fact base (one op t) = mentions d fact base t
  mentions d fact base (two op a b) = mentions d fact base a ++ mentions d fact base b
  mentions d fact base (pick op p t) = use_mentions d fact base p.path ++ mentions d fact (condition_base d fact base p.path) t

  pub tree_mentions : Dictionary → ℕ → ℕ → Sources → List Mention
  tree_mentions d fact base no_trees = []
  tree_mentions d fact base (tree t ts) = mentions d fact base t ++ tree_mentions d fact base ts

  pub case_mentions : Dictionary → ℕ → ℕ → SourceCases → List Mention
  case_mentions d fact base no_cases = []
  case_mentions d fact base (a_case t o cs) = mentions d fact base t ++ (mentions d fact base o ++ case_mentions d fact base cs)

-- ---- of a fact: main, then the conditional's condition, its value, then the placeholder

abbrev pub option_mentions : Dictionary → ℕ → Option Source → List Mention
option_mentions d fact None = []
option_mentions d fact (Some t) = mentions d fact 0 t

abbrev pub conditional_mentions : Dictionary → ℕ → Option SourceCase → List Mention
conditional_mentions d fact None = []
conditional_mentions d fact (Some c) = mentions d fact 0 c.0 ++ mentions d fact 0 c.1

abbrev pub fact_mentions : Dictionary → ℕ → Fact → List Mention
fact_mentions d fact f = option_mentions d fact f.main ++ (conditional_mentions d fact f.conditional ++ option_mentions d fact f.placeholder)

-- of the fact with a number; no fact mentions nothing
abbrev pub found_mentions : Dictionary → ℕ → Option Fact → List Mention
found_mentions d fact None = []
found_mentions d fact (Some f) = fact_mentions d fact f
