-- Which facts are steady: the test by rank tells, and it follows from the facts that a body mentions.
use Rattle.std.proofs.Common.{◌≡◌, ℕ, zero, suc, ◌<◌, Bool, true, List, [], ◌∷◌, ◌++◌, get_or, inl, inr, refl, sym, ap, ◌∙◌, arith}
use Rattle.std.specs.Prelude.{◌&&◌, IsTrue, ◌↔◌}
use Rattle.std.specs.List.{list_all}
use Rattle.std.proofs.lemmas.Bool.{and_from, and_parts}
use Rattle.dict_source.specs.Facts.{Fact}
use Rattle.dict_source.specs.Dictionary.{Dictionary as Tree}
use Rattle.dict_source.specs.Mentions.{conditional_mentions, option_mentions}
use Rattle.dict_source.specs.declared.mentions.Mention.{Mention}
use Rattle.dict_order.specs.Graph.{Has, Leads, Mentions, mentioned}
use Rattle.dict_order.specs.MentionGraph.{facts_of, graph_from, mention_graph}
use Rattle.dict_order.specs.Ranks.{AreRanks, rank_of}
use Rattle.dict_order.proofs.RankLaws.{falls_once}
use Rattle.dict_meaning.specs.Steady.{IsSteady, bodies_from, body_graph, is_untested, steady_by_rank, steady_over, steady_within}

-- ---- what a body mentions is mentioned

some_more : (ms ns rest : List Mention) (x : ℕ) → Has (facts_of (ms ++ ns)) x → Has (facts_of (ms ++ (ns ++ rest))) x
some_more [] [] rest x h = absurd h
some_more [] (n ∷ ns) rest x (inl e) = inl e
some_more [] (n ∷ ns) rest x (inr h) = inr (some_more [] ns rest x h)
some_more (m ∷ ms) ns rest x (inl e) = inl e
some_more (m ∷ ms) ns rest x (inr h) = inr (some_more ms ns rest x h)

body_within : (d : Tree) (n : ℕ) (fs : List Fact) (place x : ℕ) → Has (get_or (bodies_from d n fs) place []) x → Has (get_or (graph_from d n fs) place []) x
body_within d n [] place x h = absurd h
body_within d n (f ∷ fs) zero x h = some_more (option_mentions d n f.main) (conditional_mentions d n f.conditional) (option_mentions d n f.placeholder) x h
body_within d n (f ∷ fs) (suc place) x h = body_within d (suc n) fs place x h

pub body_mentioned : (d : Tree) (fact x : ℕ) → Mentions (body_graph d) fact x → Mentions (mention_graph d) fact x
body_mentioned d zero x h = h
body_mentioned d (suc place) x h = body_within d 1 d.facts place x h

-- ---- lists of tests

all_same : (p q : ℕ → Bool) (l : List ℕ) → ((x : ℕ) → Has l x → p x ≡ q x) → list_all p l ≡ list_all q l
all_same p q [] h = refl
all_same p q (y ∷ l) h = let e = h y (inl refl) in let r = all_same p q l (λ x m. h x (inr m)) in cc

all_has : (p : ℕ → Bool) (l : List ℕ) (x : ℕ) → list_all p l ≡ true → Has l x → p x ≡ true
all_has p [] x h m = absurd m
all_has p (y ∷ l) x h (inl e) = ap p e ∙ (and_parts (p y) (list_all p l) h).0
all_has p (y ∷ l) x h (inr m) = all_has p l x (and_parts (p y) (list_all p l) h).1 m

all_from : (p : ℕ → Bool) (l : List ℕ) → ((x : ℕ) → Has l x → p x ≡ true) → list_all p l ≡ true
all_from p [] h = refl
all_from p (y ∷ l) h = and_from (p y) (list_all p l) (h y (inl refl)) (all_from p l (λ x m. h x (inr m)))

-- ---- by rank

module _ (d : Tree) (ranks : List ℕ) (ranked : AreRanks (mention_graph d) ranks) where
  falls : (fact x : ℕ) → Mentions (body_graph d) fact x → rank_of ranks x < rank_of ranks fact
  falls fact x m = falls_once (mention_graph d) ranks fact x ranked (body_mentioned d fact x m)

  -- more rows of mentions show no more
  enough : (n m fact : ℕ) → rank_of ranks fact < n → rank_of ranks fact < m → steady_within d n fact ≡ steady_within d m fact
  enough zero m fact a b = absurd (omega arith)
  enough (suc n) zero fact a b = absurd (omega arith)
  enough (suc n) (suc m) fact a b =
      ap (λ (t : Bool). is_untested d fact && t)
      (all_same (steady_within d n) (steady_within d m) (mentioned (body_graph d) fact)
      (λ x h. let low = falls fact x h in enough n m x (omega (arith, low, a)) (omega (arith, low, b))))

  -- a fact is steady where its body isn't tested and all that the body mentions is steady
  pub steady_step : (fact : ℕ) → steady_by_rank d ranks fact ≡ steady_over d (steady_by_rank d ranks) fact
  unfolding steady_by_rank
  steady_step fact =
      ap (λ (t : Bool). is_untested d fact && t)
      (all_same (steady_within d (rank_of ranks fact)) (steady_by_rank d ranks) (mentioned (body_graph d) fact)
      (λ x h. let low = falls fact x h in enough (rank_of ranks fact) (suc (rank_of ranks x)) x low (omega arith)))

  pub parts : (fact : ℕ) → steady_by_rank d ranks fact ≡ true → (is_untested d fact ≡ true) × (list_all (steady_by_rank d ranks) (mentioned (body_graph d) fact) ≡ true)
  parts fact h = and_parts (is_untested d fact) (list_all (steady_by_rank d ranks) (mentioned (body_graph d) fact)) (sym (steady_step fact) ∙ h)

  pub steady_mentioned : (fact x : ℕ) → steady_by_rank d ranks fact ≡ true → Mentions (body_graph d) fact x → steady_by_rank d ranks x ≡ true
  steady_mentioned fact x h m = all_has (steady_by_rank d ranks) (mentioned (body_graph d) fact) x (parts fact h).1 m

  untested_along : (n fact other : ℕ) → steady_by_rank d ranks fact ≡ true → Leads (body_graph d) n fact other → is_untested d other ≡ true
  untested_along zero fact other h m = (parts other (steady_mentioned fact other h m)).0
  untested_along (suc n) fact other h l = untested_along n l.0 other (steady_mentioned fact l.0 h l.1) l.2

  is_steady : (fact : ℕ) → steady_by_rank d ranks fact ≡ true → IsSteady d fact
  is_steady fact h other (inl e) = ap (is_untested d) e ∙ (parts fact h).0
  is_steady fact h other (inr r) = untested_along r.0 fact other h r.1

  steady_next : (fact x : ℕ) → IsSteady d fact → Mentions (body_graph d) fact x → IsSteady d x
  steady_next fact x h m other (inl e) = ap (is_untested d) e ∙ h x (inr (0, m))
  steady_next fact x h m other (inr r) = h other (inr (suc r.0, (x, m, r.1)))

  within : (n fact : ℕ) → IsSteady d fact → steady_within d n fact ≡ true
  within zero fact h = refl
  within (suc n) fact h =
      and_from (is_untested d fact) (list_all (steady_within d n) (mentioned (body_graph d) fact)) (h fact (inl refl))
      (all_from (steady_within d n) (mentioned (body_graph d) fact) (λ x m. within n x (steady_next fact x h m)))

  pub tells : (fact : ℕ) → IsTrue (steady_by_rank d ranks fact) ↔ IsSteady d fact
  unfolding steady_by_rank
  tells fact = (is_steady fact, within (suc (rank_of ranks fact)) fact)

  -- ---- fact by fact

  -- where what the body mentions is known
  pub step_from : (test : ℕ → Bool) (fact : ℕ) → ((x : ℕ) → Mentions (body_graph d) fact x → test x ≡ steady_by_rank d ranks x) → steady_over d test fact ≡ steady_by_rank d ranks fact
  step_from test fact h =
      ap (λ (t : Bool). is_untested d fact && t) (all_same test (steady_by_rank d ranks) (mentioned (body_graph d) fact) h) ∙ sym (steady_step fact)
