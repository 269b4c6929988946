-- What holds of all that an expression mentions holds of the uses at each of its reads and collections.
use Rattle.std.proofs.Common.{ℕ, ◌++◌}
use Rattle.dict_source.specs.Tree.{Source, Sources, SourceCases, literal, read, switch, many, one, two, pick, no_trees, tree, no_cases, a_case, Reading, Use}
use Rattle.dict_source.specs.Dictionary.{Dictionary as Tree}
use Rattle.dict_source.specs.Mentions.{condition_base, use_mentions, mentions, tree_mentions, case_mentions}
use Rattle.dict_source.specs.declared.mentions.Mention.{Mention}
use Rattle.evaluation.specs.Mentioned.{AllOf, Each, EachInAll, EachInCases}
use Rattle.evaluation.proofs.Mentions.{all-left, all-right}

-- of a read, and of a collection, under a base
abbrev pub ReadIs : Tree → ℕ → (Mention → Type 0) → ℕ → Reading → Type 0
ReadIs d fact M base r = AllOf M (use_mentions d fact base r.1.path)

abbrev pub SourceIs : Tree → ℕ → (Mention → Type 0) → ℕ → Use → Type 0
SourceIs d fact M base u = AllOf M (use_mentions d fact base u.path)

-- the base of the condition of a Filter or a Find
abbrev pub base_under : Tree → ℕ → ℕ → Use → ℕ
base_under d fact base u = condition_base d fact base u.path

mutual
  pub each_mentioned : (d : Tree) (fact : ℕ) (M : Mention → Type 0) (t : Source) (base : ℕ) → AllOf M (mentions d fact base t) → Each (ReadIs d fact M) (SourceIs d fact M) (base_under d fact) base t
  each_mentioned d fact M (literal c) base h = tt
  each_mentioned d fact M (read r) base h = h
  each_mentioned d fact M (switch cs) base h = each_in_cases d fact M cs base h
  each_mentioned d fact M (many op ts) base h = each_in_all d fact M ts base h
  each_mentioned d fact M (one op t) base h = each_mentioned d fact M t base h
  each_mentioned d fact M (two op x y) base h = (
    each_mentioned d fact M x base (all-left M (mentions d fact base x) (mentions d fact base y) h),
    each_mentioned d fact M y base (all-right M (mentions d fact base x) (mentions d fact base y) h),
  )
  each_mentioned d fact M (pick op p t) base h = (
    all-left M (use_mentions d fact base p.path) (mentions d fact (condition_base d fact base p.path) t) h,
    each_mentioned d fact M t (condition_base d fact base p.path) (all-right M (use_mentions d fact base p.path) (mentions d fact (condition_base d fact base p.path) t) h),
  )

  each_in_all : (d : Tree) (fact : ℕ) (M : Mention → Type 0) (ts : Sources) (base : ℕ) → AllOf M (tree_mentions d fact base ts) → EachInAll (ReadIs d fact M) (SourceIs d fact M) (base_under d fact) base ts
  each_in_all d fact M no_trees base h = tt
  each_in_all d fact M (tree t ts) base h = (
    each_mentioned d fact M t base (all-left M (mentions d fact base t) (tree_mentions d fact base ts) h),
    each_in_all d fact M ts base (all-right M (mentions d fact base t) (tree_mentions d fact base ts) h),
  )

  each_in_cases : (d : Tree) (fact : ℕ) (M : Mention → Type 0) (cs : SourceCases) (base : ℕ) → AllOf M (case_mentions d fact base cs) → EachInCases (ReadIs d fact M) (SourceIs d fact M) (base_under d fact) base cs
  each_in_cases d fact M no_cases base h = tt
  each_in_cases d fact M (a_case t o cs) base h =
      let rest = all-right M (mentions d fact base t) (mentions d fact base o ++ case_mentions d fact base cs) h in (
        each_mentioned d fact M t base (all-left M (mentions d fact base t) (mentions d fact base o ++ case_mentions d fact base cs) h),
        each_mentioned d fact M o base (all-left M (mentions d fact base o) (case_mentions d fact base cs) rest),
        each_in_cases d fact M cs base (all-right M (mentions d fact base o) (case_mentions d fact base cs) rest),
      )
