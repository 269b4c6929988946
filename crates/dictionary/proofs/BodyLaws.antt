-- A body is steady where it has no IsComplete and all that it mentions is steady.
use Rattle.std.proofs.Common.{◌≡◌, ℕ, zero, suc, ◌+◌, Bool, true, false, List, [], ◌∷◌, ◌++◌, get_or, slice_get, Option, Some, None, refl, sym, ap, ◌∙◌, arith}
use Rattle.std.specs.Prelude.{◌&&◌}
use Rattle.std.specs.List.{list_all}
use Rattle.std.proofs.lemmas.List.{map-append}
use Rattle.std.proofs.lemmas.List.Folds.{list_all-append}
use Rattle.fact_paths.specs.declared.use_path.UsePath.{UsePath}
use Rattle.dict_source.specs.Tree.{Source, Sources, SourceCase, SourceCases, literal, read, switch, many, one, two, pick, no_trees, tree, no_cases, a_case}
use Rattle.dict_source.specs.Facts.{Fact}
use Rattle.dict_source.specs.Dictionary.{Dictionary as Tree}
use Rattle.dict_source.specs.Finding.{fact_at}
use Rattle.dict_source.specs.Mentions.{case_mentions, condition_base, conditional_mentions, is_same, mention_of, mentions, option_mentions, tree_mentions, use_mentions}
use Rattle.dict_source.specs.Targets.{targets}
use Rattle.dict_source.specs.declared.mentions.Mention.{Mention}
use Rattle.dict_order.specs.Graph.{mentioned}
use Rattle.dict_order.specs.MentionGraph.{facts_of}
use Rattle.common_lemmas.proofs.Bools.{and_true}
use Rattle.evaluation.specs.Order.{has_no_complete_test, is_value_read, reads_pass_in_all, reads_pass_in_cases}
use Rattle.dict_meaning.specs.Steady.{bodies_from, body_graph, body_mentions, body_untested, conditional_untested, is_untested, option_untested, steady_over}
use Rattle.dictionary.specs.SteadyDependencies.{steady_body, steady_cases, steady_conditional, steady_option, steady_source, steady_target, steady_trees, steady_use}

-- ---- tests in a row

four : (a b c d : Bool) → ((a && b) && (c && d)) ≡ ((a && c) && (b && d))
four true true c d = refl
four true false true d = refl
four true false false d = refl
four false b c d = refl

pub swapped : (a b c : Bool) → (a && (b && c)) ≡ (b && (a && c))
swapped true b c = refl
swapped false true c = refl
swapped false false c = refl

-- all facts of these mentions pass
abbrev all_of : (ℕ → Bool) → List Mention → Bool
all_of test ms = list_all test (facts_of ms)

all_of-append : (test : ℕ → Bool) (ms ns : List Mention) → all_of test (ms ++ ns) ≡ (all_of test ms && all_of test ns)
all_of-append test ms ns = ap (list_all test) (map-append (λ (m : Mention). m.fact) ms ns) ∙ list_all-append test (facts_of ms) (facts_of ns)

-- one part and the next
joined : (test : ℕ → Bool) (s t u v : Bool) (ms ns : List Mention) → s ≡ (u && all_of test ms) → t ≡ (v && all_of test ns) → (s && t) ≡ ((u && v) && all_of test (ms ++ ns))
joined test s t u v ms ns h k =
    ap (λ (x : Bool). x && t) h
    ∙ ap (λ (x : Bool). (u && all_of test ms) && x) k
    ∙ four u (all_of test ms) v (all_of test ns)
    ∙ ap (λ (x : Bool). (u && v) && x) (sym (all_of-append test ms ns))

module _ (d : Tree) (test : ℕ → Bool) (fact : ℕ) where
  target_is : (same : Bool) (o : Option ℕ) → steady_target test o ≡ all_of test (mention_of same o)
  target_is same None = refl
  target_is same (Some n) = sym (and_true (test n))

  use_is : (base : ℕ) (p : Option UsePath) → steady_use d test fact base p ≡ all_of test (use_mentions d fact base p)
  use_is base None = refl
  use_is base (Some path) =
      let first = (targets d fact base path).first in
      let second = (targets d fact base path).second in
      ap (λ (b : Bool). b && steady_target test second) (target_is (is_same path) first)
      ∙ ap (λ (b : Bool). all_of test (mention_of (is_same path) first) && b) (target_is false second)
      ∙ sym (all_of-append test (mention_of (is_same path) first) (mention_of false second))

  -- ---- expressions

  mutual
    source_is : (base : ℕ) (t : Source) → steady_source d test fact base t ≡ (has_no_complete_test t && all_of test (mentions d fact base t))
    source_is base (literal c) = refl
    source_is base (read r) = ap (λ (b : Bool). is_value_read r.0 && b) (use_is base r.1.path)
    source_is base (switch cs) = cases_are base cs
    source_is base (many op ts) = trees_are base ts
    source_is base (one op t) = source_is base t
    source_is base (two op a b) = joined test _ _ (has_no_complete_test a) (has_no_complete_test b) (mentions d fact base a) (mentions d fact base b) (source_is base a) (source_is base b)
    source_is base (pick op p t) =
        let inner = condition_base d fact base p.path in
        ap (λ (x : Bool). x && steady_source d test fact inner t) (use_is base p.path)
        ∙ ap (λ (x : Bool). all_of test (use_mentions d fact base p.path) && x) (source_is inner t)
        ∙ swapped (all_of test (use_mentions d fact base p.path)) (has_no_complete_test t) (all_of test (mentions d fact inner t))
        ∙ ap (λ (x : Bool). has_no_complete_test t && x) (sym (all_of-append test (use_mentions d fact base p.path) (mentions d fact inner t)))

    trees_are : (base : ℕ) (ts : Sources) → steady_trees d test fact base ts ≡ (reads_pass_in_all (λ r. is_value_read r.0) ts && all_of test (tree_mentions d fact base ts))
    trees_are base no_trees = refl
    trees_are base (tree t ts) =
        joined test _ _ (has_no_complete_test t) (reads_pass_in_all (λ r. is_value_read r.0) ts) (mentions d fact base t) (tree_mentions d fact base ts) (source_is base t) (trees_are base ts)

    cases_are : (base : ℕ) (cs : SourceCases) → steady_cases d test fact base cs ≡ (reads_pass_in_cases (λ r. is_value_read r.0) cs && all_of test (case_mentions d fact base cs))
    cases_are base no_cases = refl
    cases_are base (a_case t o cs) =
        let rest = reads_pass_in_cases (λ r. is_value_read r.0) cs in
        joined test _ _ (has_no_complete_test t) (has_no_complete_test o && rest) (mentions d fact base t) (mentions d fact base o ++ case_mentions d fact base cs) (source_is base t)
        (joined test _ _ (has_no_complete_test o) rest (mentions d fact base o) (case_mentions d fact base cs) (source_is base o) (cases_are base cs))

  -- ---- bodies

  option_is : (o : Option Source) → steady_option d test fact o ≡ (option_untested o && all_of test (option_mentions d fact o))
  option_is None = refl
  option_is (Some t) = source_is 0 t

  conditional_is : (o : Option SourceCase) → steady_conditional d test fact o ≡ (conditional_untested o && all_of test (conditional_mentions d fact o))
  conditional_is None = refl
  conditional_is (Some c) = joined test _ _ (has_no_complete_test c.0) (has_no_complete_test c.1) (mentions d fact 0 c.0) (mentions d fact 0 c.1) (source_is 0 c.0) (source_is 0 c.1)

  body_is : (f : Fact) → steady_body d test fact (Some f) ≡ (body_untested (Some f) && list_all test (body_mentions d fact f))
  body_is f = joined test _ _ (option_untested f.main) (conditional_untested f.conditional) (option_mentions d fact f.main) (conditional_mentions d fact f.conditional) (option_is f.main) (conditional_is f.conditional)

-- ---- by number

-- what the body of a fact mentions
abbrev body_at : Tree → ℕ → Option Fact → List ℕ
body_at d fact None = []
body_at d fact (Some f) = body_mentions d fact f

at_place : (d : Tree) (n : ℕ) (fs : List Fact) (i m : ℕ) → m ≡ n + i → get_or (bodies_from d n fs) i [] ≡ body_at d m (slice_get fs i)
at_place d n [] i m e = refl
at_place d n (f ∷ fs) zero m e =
    let same : n ≡ m = omega arith in
    ap (λ (k : ℕ). body_at d k (slice_get (f ∷ fs) 0)) same
at_place d n (f ∷ fs) (suc i) m e = at_place d (suc n) fs i m (omega arith)

body_mentioned_is : (d : Tree) (fact : ℕ) → mentioned (body_graph d) fact ≡ body_at d fact (fact_at d.facts fact)
body_mentioned_is d zero = refl
body_mentioned_is d (suc i) = at_place d 1 d.facts i (suc i) (omega arith)

found_is : (d : Tree) (test : ℕ → Bool) (fact : ℕ) (o : Option Fact) → steady_body d test fact o ≡ (body_untested o && list_all test (body_at d fact o))
found_is d test fact None = refl
found_is d test fact (Some f) = body_is d test fact f

pub steady_body_is : (d : Tree) (test : ℕ → Bool) (fact : ℕ) → steady_body d test fact (fact_at d.facts fact) ≡ steady_over d test fact
steady_body_is d test fact =
    found_is d test fact (fact_at d.facts fact) ∙ ap (λ (l : List ℕ). is_untested d fact && list_all test l) (sym (body_mentioned_is d fact))
