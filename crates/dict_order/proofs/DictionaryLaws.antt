-- The graph of a dictionary has the mentions of each fact.
use Rattle.std.proofs.Common.{◌≡◌, ℕ, zero, suc, ◌+◌, ◌<◌, ◌≤◌, Bool, true, false, List, [], ◌∷◌, ◌++◌, length, get_or, drop, take, None, Result, Ok, Err, Vec, Global, inl, inr, refl, sym, ap, ap₂, subst, ◌∙◌, arith}
use Rattle.std.proofs.Math.Seq.{take-suc}
use Rattle.std.specs.Prelude.{slice_get, nat_lt}
use Rattle.std.specs.List.{All}
use Rattle.std.proofs.lemmas.List.{length-map, map-append}
use Rattle.std.proofs.lemmas.List.Elements.{All-head, All-tail}
use Rattle.dict_source.specs.Dictionary.{Dictionary, Written, dictionary_view, IsValid, number_from, passed}
use Rattle.dict_source.specs.Facts.{Fact, fact_view}
use Rattle.dict_source.specs.Finding.{IsNumber, fact_at}
use Rattle.dict_source.specs.Mentions.{found_mentions}
use Rattle.dict_source.specs.declared.mentions.Mention.{Mention}
use Rattle.dict_source.proofs.MentionLaws.{found_within}
use Rattle.dict_order.specs.Graph.{Graph, graph_of, mentioned, Has, HasNoCycle, MentionsFacts}
use Rattle.dict_order.specs.MentionGraph.{facts_of, graph_from, mention_graph}
use Rattle.dict_order.specs.Ranks.{AreRanks, are_ranks}
use Rattle.dict_order.specs.Order.{Orders}
use Rattle.dict_order.specs.DictionaryLaws.{IsAnswered}
use Rattle.dict_order.specs.declared.fault.OrderFault.{OrderFault}
use Rattle.dict_order.specs.declared.fault.OrderFault.TheVariants as faults
use Rattle.dict_order.proofs.RankLaws.{no_cycle, only_one, test_tells}

-- ---- places

length_from : (d : Dictionary) (n : ℕ) (fs : List Fact) → length (graph_from d n fs) ≡ length fs
length_from d n [] = refl
length_from d n (f ∷ fs) = ap suc (length_from d (suc n) fs)

pub length_mention_graph : (d : Dictionary) → length (mention_graph d) ≡ length d.facts
length_mention_graph d = length_from d 1 d.facts

pub length_of_written : (w : Written) → length (mention_graph (dictionary_view w)) ≡ length w.facts
length_of_written w = length_mention_graph (dictionary_view w) ∙ length-map w.facts fact_view

at_place : (d : Dictionary) (n : ℕ) (fs : List Fact) (i m : ℕ) → m ≡ n + i → get_or (graph_from d n fs) i [] ≡ facts_of (found_mentions d m (slice_get fs i))
at_place d n [] i m e = refl
at_place d n (f ∷ fs) zero m e =
    let same : n ≡ m = omega arith in
    ap (λ (k : ℕ). facts_of (found_mentions d k (slice_get (f ∷ fs) 0))) same
at_place d n (f ∷ fs) (suc i) m e = at_place d (suc n) fs i m (omega arith)

pub mentioned_is : (d : Dictionary) (fact : ℕ) → mentioned (mention_graph d) fact ≡ facts_of (found_mentions d fact (fact_at d.facts fact))
mentioned_is d zero = refl
mentioned_is d (suc i) = at_place d 1 d.facts i (suc i) (omega arith)

-- ---- only facts are mentioned

of_a_fact : (d : Dictionary) (mentions : List Mention) (other : ℕ) → All (λ (mention : Mention). IsNumber d.facts mention.fact) mentions → Has (facts_of mentions) other → IsNumber d.facts other
of_a_fact d [] other all h = absurd h
of_a_fact d (m ∷ ms) other all (inl e) = subst (IsNumber d.facts) (sym e) (All-head (λ (mention : Mention). IsNumber d.facts mention.fact) m ms all)
of_a_fact d (m ∷ ms) other all (inr h) = of_a_fact d ms other (All-tail (λ (mention : Mention). IsNumber d.facts mention.fact) m ms all) h

pub mentions_facts : (d : Dictionary) → MentionsFacts (mention_graph d)
mentions_facts d fact other h =
    let there : Has (facts_of (found_mentions d fact (fact_at d.facts fact))) other = subst (λ (l : List ℕ). Has l other) (mentioned_is d fact) h in
    let is = of_a_fact d (found_mentions d fact (fact_at d.facts fact)) other (found_within d fact (fact_at d.facts fact)) there in
    (omega (arith, is.0), omega (arith, is.1, length_mention_graph d))

-- ---- a dictionary is of few facts

first_is_none : (b : Bool) (bs : List Bool) → number_from (λ (b : Bool). b) 1 (b ∷ bs) ≡ None → b ≡ false
first_is_none true bs h = absurd cc
first_is_none false bs h = refl

pub few_facts : (d : Dictionary) → IsValid d → length d.facts ≤ 2000
few_facts d valid =
    let test : nat_lt 2000 (length d.facts) ≡ false = first_is_none (nat_lt 2000 (length d.facts)) (drop 1 (passed d)) valid.limits.many in
    grind arith

-- ---- the list of one fact more

pub one_list_more : (graph : Graph) (lists new : List (Vec ℕ Global)) (list : Vec ℕ Global) (place : ℕ) → place < length graph → graph_of lists ≡ take place graph → new ≡ lists ++ list ∷ [] → list.items ≡ mentioned graph (suc place) → graph_of new ≡ take (suc place) graph
one_list_more graph lists new list place lt so_far pushed is =
    ap graph_of pushed
    ∙ map-append (λ (v : Vec ℕ Global). v.items) lists (list ∷ [])
    ∙ ap₂ (λ (ls : Graph) (l : List ℕ). ls ++ l ∷ []) so_far is
    ∙ sym (take-suc graph place [] lt)

-- ---- a written list

answered : (d : Dictionary) (ranks : List ℕ) → AreRanks (mention_graph d) ranks → (answer : Result (Vec ℕ Global) OrderFault) → Orders (mention_graph d) answer → IsAnswered ranks answer
answered d ranks are (Ok list) ordered = only_one (mention_graph d) list.items ranks ordered are
answered d ranks are (Err (faults.Cycle fact)) first = absurd (no_cycle (mention_graph d) ranks are fact first.cycle)
answered d ranks are (Err faults.NoMemory) u = refl

pub written_ranks : (d : Dictionary) (ranks : List ℕ) → are_ranks (mention_graph d) ranks ≡ true → HasNoCycle (mention_graph d) × AreRanks (mention_graph d) ranks × ((answer : Result (Vec ℕ Global) OrderFault) → Orders (mention_graph d) answer → IsAnswered ranks answer)
written_ranks d ranks test =
    let are = test_tells (mention_graph d) ranks test in
    (no_cycle (mention_graph d) ranks are, are, answered d ranks are)
