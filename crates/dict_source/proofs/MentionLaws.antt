-- Mentions of lists of expressions, one after another.
use Rattle.std.proofs.Common.{◌≡◌, ℕ, Bool, false, List, [], ◌∷◌, Option, Some, None, ◌++◌, ap, sym, ◌∙◌, append_assoc}
use Rattle.std.specs.Prelude.{IfSome}
use Rattle.std.specs.List.{All}
use Rattle.std.proofs.lemmas.List.Elements.{All-nil, All-cons, All-append}
use Rattle.fact_paths.specs.declared.use_path.UsePath.{UsePath}
use Rattle.dict_source.specs.Tree.{Source, Sources, SourceCase, SourceCases, literal, read, switch, many, one, two, pick, no_trees, tree, no_cases, a_case}
use Rattle.dict_source.specs.Facts.{Fact}
use Rattle.dict_source.specs.Finding.{IsNumber}
use Rattle.dict_source.specs.Targets.{targets}
use Rattle.dict_source.proofs.TargetsLaws.{targets-AreTargets, AreTargets-first_within, AreTargets-second_within}
use Rattle.dict_source.specs.View.{trees_of, cases_of}
use Rattle.dict_source.specs.Dictionary.{Dictionary}
use Rattle.dict_source.specs.Mentions.{mention_of, is_same, use_mentions, condition_base, mentions, tree_mentions, case_mentions, option_mentions, conditional_mentions, found_mentions}
use Rattle.dict_source.specs.declared.mentions.Mention.{Mention}

module _ (d : Dictionary) (fact base : ℕ) where
  -- one operand more is noted
  pub tree_next : (rest later : List Source) (t : Source) (out new whole : List Mention) → rest ≡ t ∷ later → out ++ tree_mentions d fact base (trees_of rest) ≡ whole → new ≡ out ++ mentions d fact base t → new ++ tree_mentions d fact base (trees_of later) ≡ whole
  tree_next rest later t out new whole e h noted =
      ap (λ (l : List Mention). l ++ tree_mentions d fact base (trees_of later)) noted
      ∙ append_assoc out (mentions d fact base t) (tree_mentions d fact base (trees_of later))
      ∙ sym (ap (λ (r : List Source). out ++ tree_mentions d fact base (trees_of r)) e)
      ∙ h

  -- one case more is noted: its test, and then its outcome
  pub case_next : (rest later : List SourceCase) (c : SourceCase) (out test new whole : List Mention) → rest ≡ c ∷ later → out ++ case_mentions d fact base (cases_of rest) ≡ whole → test ≡ out ++ mentions d fact base c.0 → new ≡ test ++ mentions d fact base c.1 → new ++ case_mentions d fact base (cases_of later) ≡ whole
  case_next rest later c out test new whole e h first second =
      let left : List Mention = case_mentions d fact base (cases_of later) in
      ap (λ (l : List Mention). l ++ left) (second ∙ ap (λ (l : List Mention). l ++ mentions d fact base c.1) first)
      ∙ append_assoc (out ++ mentions d fact base c.0) (mentions d fact base c.1) left
      ∙ append_assoc out (mentions d fact base c.0) (mentions d fact base c.1 ++ left)
      ∙ sym (ap (λ (r : List SourceCase). out ++ case_mentions d fact base (cases_of r)) e)
      ∙ h

-- ---- each mention is of a fact

abbrev pub IsOfFact : Dictionary → Mention → Type 0
IsOfFact d mention = IsNumber d.facts mention.fact

joined : (d : Dictionary) (xs ys : List Mention) → All (IsOfFact d) xs → All (IsOfFact d) ys → All (IsOfFact d) (xs ++ ys)
joined d xs ys h k = All-append (IsOfFact d) xs ys h k

target_within : (d : Dictionary) (same : Bool) (target : Option ℕ) → IfSome target (IsNumber d.facts) → All (IsOfFact d) (mention_of same target)
target_within d same None h = All-nil (IsOfFact d)
target_within d same (Some n) h = All-cons (IsOfFact d) (record { fact = n; same = same }) [] h (All-nil (IsOfFact d))

use_within : (d : Dictionary) (fact base : ℕ) (path : Option UsePath) → All (IsOfFact d) (use_mentions d fact base path)
use_within d fact base None = All-nil (IsOfFact d)
use_within d fact base (Some path) =
    let t = targets-AreTargets d fact base path in
    joined d (mention_of (is_same path) (targets d fact base path).first) (mention_of false (targets d fact base path).second)
    (target_within d (is_same path) (targets d fact base path).first (AreTargets-first_within d fact base path (targets d fact base path) t))
    (target_within d false (targets d fact base path).second (AreTargets-second_within d fact base path (targets d fact base path) t))

mutual
  expr_within : (d : Dictionary) (fact base : ℕ) (t : Source) → All (IsOfFact d) (mentions d fact base t)
  expr_within d fact base (literal c) = All-nil (IsOfFact d)
  expr_within d fact base (read r) = use_within d fact base r.1.path
  expr_within d fact base (switch cs) = cases_within d fact base cs
  expr_within d fact base (many op ts) = trees_within d fact base ts
  expr_within d fact base (one op t) = expr_within d fact base t
  expr_within d fact base (two op a b) = joined d (mentions d fact base a) (mentions d fact base b) (expr_within d fact base a) (expr_within d fact base b)
  expr_within d fact base (pick op p t) = joined d (use_mentions d fact base p.path) (mentions d fact (condition_base d fact base p.path) t) (use_within d fact base p.path) (expr_within d fact (condition_base d fact base p.path) t)

  trees_within : (d : Dictionary) (fact base : ℕ) (ts : Sources) → All (IsOfFact d) (tree_mentions d fact base ts)
  trees_within d fact base no_trees = All-nil (IsOfFact d)
  trees_within d fact base (tree t ts) = joined d (mentions d fact base t) (tree_mentions d fact base ts) (expr_within d fact base t) (trees_within d fact base ts)

  cases_within : (d : Dictionary) (fact base : ℕ) (cs : SourceCases) → All (IsOfFact d) (case_mentions d fact base cs)
  cases_within d fact base no_cases = All-nil (IsOfFact d)
  cases_within d fact base (a_case t o cs) =
      joined d (mentions d fact base t) (mentions d fact base o ++ case_mentions d fact base cs) (expr_within d fact base t)
      (joined d (mentions d fact base o) (case_mentions d fact base cs) (expr_within d fact base o) (cases_within d fact base cs))

option_within : (d : Dictionary) (fact : ℕ) (t : Option Source) → All (IsOfFact d) (option_mentions d fact t)
option_within d fact None = All-nil (IsOfFact d)
option_within d fact (Some t) = expr_within d fact 0 t

conditional_within : (d : Dictionary) (fact : ℕ) (c : Option SourceCase) → All (IsOfFact d) (conditional_mentions d fact c)
conditional_within d fact None = All-nil (IsOfFact d)
conditional_within d fact (Some c) = joined d (mentions d fact 0 c.0) (mentions d fact 0 c.1) (expr_within d fact 0 c.0) (expr_within d fact 0 c.1)

pub found_within : (d : Dictionary) (fact : ℕ) (f : Option Fact) → All (IsOfFact d) (found_mentions d fact f)
found_within d fact None = All-nil (IsOfFact d)
found_within d fact (Some f) =
    joined d (option_mentions d fact f.main) (conditional_mentions d fact f.conditional ++ option_mentions d fact f.placeholder) (option_within d fact f.main)
    (joined d (conditional_mentions d fact f.conditional) (option_mentions d fact f.placeholder) (conditional_within d fact f.conditional) (option_within d fact f.placeholder))
