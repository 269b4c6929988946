-- Which facts are steady: whether there is an answer is asked by none of their bodies.
use Rattle.std.specs.Prelude.{◌≡◌, ◌⊎◌, ℕ, zero, suc, ◌&&◌, Bool, true, IsTrue, ◌↔◌, List, [], ◌∷◌, ◌++◌, Option, Some, None}
use Rattle.std.specs.List.{list_all}
use Rattle.dict_source.specs.Tree.{Source, SourceCase}
use Rattle.dict_source.specs.Facts.{Fact}
use Rattle.dict_source.specs.Dictionary.{Dictionary as Tree}
use Rattle.dict_source.specs.Finding.{fact_at}
use Rattle.dict_source.specs.Mentions.{option_mentions, conditional_mentions}
use Rattle.dict_order.specs.Graph.{Graph, Reaches, mentioned}
use Rattle.dict_order.specs.MentionGraph.{facts_of}
use Rattle.dict_order.specs.Ranks.{rank_of}
use Rattle.evaluation.specs.Order.{has_no_complete_test}
use Rattle.dict_meaning.specs.Accepted.{Accepted, IsAccepted}

-- the facts that a body mentions: the main expression and the conditional, without the placeholder
abbrev pub body_mentions : Tree → ℕ → Fact → List ℕ
body_mentions d n f = facts_of (option_mentions d n f.main ++ conditional_mentions d n f.conditional)

abbrev pub bodies_from : Tree → ℕ → List Fact → Graph
bodies_from d n [] = []
bodies_from d n (f ∷ fs) = body_mentions d n f ∷ bodies_from d (suc n) fs

-- what each fact's body mentions
abbrev pub body_graph : Tree → Graph
body_graph d = bodies_from d 1 d.facts

abbrev pub option_untested : Option Source → Bool
option_untested None = true
option_untested (Some t) = has_no_complete_test t

abbrev pub conditional_untested : Option SourceCase → Bool
conditional_untested None = true
conditional_untested (Some c) = has_no_complete_test c.0 && has_no_complete_test c.1

abbrev pub body_untested : Option Fact → Bool
body_untested None = true
body_untested (Some f) = option_untested f.main && conditional_untested f.conditional

-- no IsComplete stands in the fact's body
abbrev pub is_untested : Tree → ℕ → Bool
is_untested d fact = body_untested (fact_at d.facts fact)

-- nor in that of any fact that is reached from it by mentions of bodies
abbrev pub IsSteady : Tree → ℕ → Type 0
IsSteady d fact = (other : ℕ) → (other ≡ fact) ⊎ Reaches (body_graph d) fact other → IsTrue (is_untested d other)

-- ---- the same as a test

-- of a fact, where the test tells of those that its body mentions
abbrev pub steady_over : Tree → (ℕ → Bool) → ℕ → Bool
steady_over d test fact = is_untested d fact && list_all test (mentioned (body_graph d) fact)

-- of the fact, and of those that so many mentions of bodies in a row lead to
abbrev pub steady_within : Tree → ℕ → ℕ → Bool
steady_within d zero fact = true
steady_within d (suc n) fact = steady_over d (steady_within d n) fact

-- no row of mentions is longer than the fact's rank
unfoldable pub steady_by_rank : Tree → List ℕ → ℕ → Bool
steady_by_rank d ranks fact = steady_within d (suc (rank_of ranks fact)) fact

abbrev pub steady : Accepted → ℕ → Bool
steady d fact = steady_by_rank d.tree d.ranks fact

-- ---- laws

-- the test tells
abbrev pub TestTellsSteady : Type 0
TestTellsSteady = (names : List (List ℕ)) (d : Accepted) → IsAccepted names d → (fact : ℕ) → IsTrue (steady d fact) ↔ IsSteady d.tree fact

-- fact by fact
abbrev pub StepTellsSteady : Type 0
StepTellsSteady = (names : List (List ℕ)) (d : Accepted) → IsAccepted names d → (fact : ℕ) → steady d fact ≡ steady_over d.tree (steady d) fact
