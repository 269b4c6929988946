-- Whether an expression is steady, where a list tells of the facts that it mentions.
use Rattle.std.specs.Prelude.{◌≡◌, ℕ, zero, suc, ◌&&◌, Bool, true, false, List, length, slice_index_or, Option, Some, None}
use Rattle.fact_paths.specs.declared.use_path.UsePath.{UsePath}
use Rattle.dict_source.specs.Tree.{Source, Sources, SourceCase, SourceCases, literal, read, switch, many, one, two, pick, no_trees, tree, no_cases, a_case}
use Rattle.dict_source.specs.Facts.{Fact}
use Rattle.dict_source.specs.Dictionary.{Dictionary as Tree}
use Rattle.dict_source.specs.Finding.{IsNumber}
use Rattle.dict_source.specs.Mentions.{condition_base}
use Rattle.dict_source.specs.Targets.{targets}
use Rattle.evaluation.specs.Order.{is_value_read}
use Rattle.dict_meaning.specs.Steady.{steady_by_rank}

-- what a list tells of the fact with a number: the first is fact 1's
abbrev pub known_at : List Bool → ℕ → Bool
known_at known zero = false
known_at known (suc place) = slice_index_or known place false

-- the list tells of each fact whether it is steady
pub record TellsSteady (d : Tree) (ranks : List ℕ) (known : List Bool) : Type 0 where
  pub count : length known ≡ length d.facts
  pub each : (fact : ℕ) → IsNumber d.facts fact → known_at known fact ≡ steady_by_rank d ranks fact

-- ---- uses

abbrev pub steady_target : (ℕ → Bool) → Option ℕ → Bool
steady_target test None = true
steady_target test (Some fact) = test fact

abbrev pub steady_use : Tree → (ℕ → Bool) → ℕ → ℕ → Option UsePath → Bool
steady_use d test fact base None = true
steady_use d test fact base (Some path) = steady_target test (targets d fact base path).first && steady_target test (targets d fact base path).second

-- ---- expressions: no IsComplete, and steady facts alone

abbrev mutual
  pub steady_source : Tree → (ℕ → Bool) → ℕ → ℕ → Source → Bool
  steady_source d test fact base (literal c) = true
  steady_source d test fact base (read r) = is_value_read r.0 && steady_use d test fact base r.1.path
  steady_source d test fact base (switch cs) = steady_cases d test fact base cs
  steady_source d test fact base (many op ts) = steady_trees d test fact base ts
  steady_source d test fact base (one op t) = steady_source d test fact base t
  steady_source d test fact base (two op a b) = steady_source d test fact base a && steady_source d test fact base b
  steady_source d test fact base (pick op p t) = steady_use d test fact base p.path && steady_source d test fact (condition_base d fact base p.path) t

  pub steady_trees : Tree → (ℕ → Bool) → ℕ → ℕ → Sources → Bool
  steady_trees d test fact base no_trees = true
  steady_trees d test fact base (tree t ts) = steady_source d test fact base t && steady_trees d test fact base ts

  pub steady_cases : Tree → (ℕ → Bool) → ℕ → ℕ → SourceCases → Bool
  steady_cases d test fact base no_cases = true
  steady_cases d test fact base (a_case t o cs) = steady_source d test fact base t && (steady_source d test fact base o && steady_cases d test fact base cs)

-- ---- bodies

abbrev pub steady_option : Tree → (ℕ → Bool) → ℕ → Option Source → Bool
steady_option d test fact None = true
steady_option d test fact (Some t) = steady_source d test fact 0 t

abbrev pub steady_conditional : Tree → (ℕ → Bool) → ℕ → Option SourceCase → Bool
steady_conditional d test fact None = true
steady_conditional d test fact (Some c) = steady_source d test fact 0 c.0 && steady_source d test fact 0 c.1

abbrev pub steady_body : Tree → (ℕ → Bool) → ℕ → Option Fact → Bool
steady_body d test fact None = true
steady_body d test fact (Some f) = steady_option d test fact f.main && steady_conditional d test fact f.conditional
