-- The facts that mention a fact, in the order of the ranks.
use Rattle.std.proofs.Common.{◌≡◌, ◌≢◌, ℕ, ◌<◌, ◌≤◌, Bool, true, false, cond, List, [], ◌∷◌, map, length, get_or, Some, None, refl, sym, ap, subst, ◌∙◌, arith}
use Rattle.std.specs.Prelude.{◌&&◌, ◌||◌, nat_eq}
use Rattle.std.specs.List.{All, AllPairs, IsDistinct, filter, list_any, range_with_len}
use Rattle.std.specs.Cmp.{nat_eq_equiv, unsigned_Decides}
use Rattle.std.proofs.lemmas.List.{get_or-map, get_or_default, length-map}
use Rattle.std.proofs.lemmas.List.Elements.{All-map}
use Rattle.std.proofs.lemmas.List.Folds.{list_any_at}
use Rattle.std.proofs.lemmas.List.FromFn.{get_or-range_with_len, length-range_with_len}
use Rattle.std.proofs.lemmas.List.Kept.{AllPairs-filter}
use Rattle.std.proofs.lemmas.Map.Keys.{IsDistinct-IsPermutation}
use Rattle.std.proofs.lemmas.Map.Made.{AllPairs-from_IsDistinct, IsDistinct-from_AllPairs}
use Rattle.common_lemmas.proofs.Numbers.{equal_number, same_number}
use Rattle.dict_source.specs.Dictionary.{Dictionary as Tree}
use Rattle.dict_source.specs.Finding.{IsNumber, fact_at}
use Rattle.dict_source.specs.Mentions.{found_mentions}
use Rattle.dict_order.proofs.DictionaryLaws.{length_mention_graph}
use Rattle.dict_order.specs.Ranks.{rank_of}
use Rattle.dict_meaning.specs.Accepted.{Accepted, IsAccepted}
use Rattle.dictionary.specs.ByRank.{AreByRank}
use Rattle.dict_meaning.specs.Feeds.{is_of}
use Rattle.dictionary.proofs.ByRankLaws.{place_of_fact}
use Rattle.dict_meaning.proofs.NumberLaws.{fact_within}
use Rattle.dep_index.specs.Noting.{with_facts}
use Rattle.dep_index.specs.Readers.{AreReaders, ComesBefore, all_same, is_mentioned_by, is_reader}
use Rattle.dep_index.specs.declared.readers_of.ReaderOf.{ReaderOf}
use Rattle.dep_index.proofs.NotingLaws.{noted_in_order, reader}

-- ---- the order of the facts

range_distinct : (n : ℕ) → IsDistinct nat_eq (range_with_len 1 n)
range_distinct n = IsDistinct-from_AllPairs unsigned_Decides (range_with_len 1 n) (λ i j d lt low e.
    let high : j < n = omega (arith, low, length-range_with_len 1 n) in
    let one = get_or-range_with_len 1 n i d (omega arith) in
    let two = get_or-range_with_len 1 n j d high in
    omega (arith, one, two, e, lt))

pub order_distinct : (ranks order : List ℕ) → AreByRank ranks order → IsDistinct nat_eq order
order_distinct ranks order is = IsDistinct-IsPermutation nat_eq nat_eq_equiv.symm (range_with_len 1 (length ranks)) order is.each_once (range_distinct (length ranks))

-- each fact of the list comes before those after it
Precedes : Accepted → ℕ → ℕ → Type 0
Precedes d g h = (rank_of d.ranks g ≤ rank_of d.ranks h) × (rank_of d.ranks g ≡ rank_of d.ranks h → g < h)

order_rises : (d : Accepted) (order : List ℕ) → AreByRank d.ranks order → AllPairs (Precedes d) order
unfolding Precedes
order_rises d order is i j e lt low =
    let first : get_or order i 0 ≡ get_or order i e = get_or_default order i 0 e (omega arith) in
    let second : get_or order j 0 ≡ get_or order j e = get_or_default order j 0 e low in
    let apart = AllPairs-from_IsDistinct unsigned_Decides order (order_distinct d.ranks order is) i j e lt low in (
      subst (λ g. rank_of d.ranks g ≤ rank_of d.ranks (get_or order j e)) first (subst (λ h. rank_of d.ranks (get_or order i 0) ≤ rank_of d.ranks h) second (is.ranks_rise i j (omega arith) low)),
      λ same. below (get_or order i e) (get_or order j e)
          (subst (λ g. g ≤ get_or order j e) first (subst (λ h. get_or order i 0 ≤ h) second (is.numbers_rise i j (omega arith) low (ap (rank_of d.ranks) first ∙ same ∙ sym (ap (rank_of d.ranks) second)))))
          apart,
    )
  where
    below : (g h : ℕ) → g ≤ h → g ≢ h → g < h
    below g h le ne = omega (arith, ne)

-- ---- the readers among them

rising : (d : Accepted) (fact : ℕ) (order : List ℕ) → AreByRank d.ranks order → AllPairs (ComesBefore d) (map (reader d.tree fact) (filter (is_mentioned_by d.tree fact) order))
unfolding Precedes
rising d fact order is i j e lt low =
    let kept = filter (is_mentioned_by d.tree fact) order in
    let high : j < length kept = omega (arith, low, length-map kept (reader d.tree fact)) in
    let pair = AllPairs-filter (Precedes d) (is_mentioned_by d.tree fact) order (order_rises d order is) i j 0 lt high in
    let first : get_or (map (reader d.tree fact) kept) i e ≡ reader d.tree fact (get_or kept i 0) = get_or-map (reader d.tree fact) kept i 0 e (omega arith) in
    let second : get_or (map (reader d.tree fact) kept) j e ≡ reader d.tree fact (get_or kept j 0) = get_or-map (reader d.tree fact) kept j 0 e high in
    subst (λ r. ComesBefore d r (get_or (map (reader d.tree fact) kept) j e)) (sym first)
    (subst (ComesBefore d (reader d.tree fact (get_or kept i 0))) (sym second) (record { ranks = pair.0; numbers = pair.1 }))

all_are_same : (d : Tree) (fact : ℕ) (gs : List ℕ) → All (λ (r : ReaderOf). r.same ≡ all_same d fact r.fact) (map (reader d fact) gs)
all_are_same d fact gs = All-map (λ (r : ReaderOf). r.same ≡ all_same d fact r.fact) (reader d fact) gs (λ k e low. refl)

-- a fact is among the readers where it mentions the fact and is in the list
among : (d : Tree) (fact g : ℕ) (gs : List ℕ) → list_any (is_reader g) (map (reader d fact) (filter (is_mentioned_by d fact) gs)) ≡ (is_mentioned_by d fact g && list_any (λ h. nat_eq h g) gs)
among d fact g [] = no_more (is_mentioned_by d fact g)
  where
    no_more : (b : Bool) → false ≡ (b && false)
    no_more true = refl
    no_more false = refl
among d fact g (h ∷ gs) = at (is_mentioned_by d fact h) refl (nat_eq h g) refl (among d fact g gs)
  where
    others : (b rest : Bool) → b ≡ false → (b && rest) ≡ (b && true)
    others true rest e = absurd cc
    others false rest e = refl

    at : (some : Bool) → is_mentioned_by d fact h ≡ some → (here : Bool) → nat_eq h g ≡ here
        → list_any (is_reader g) (map (reader d fact) (filter (is_mentioned_by d fact) gs)) ≡ (is_mentioned_by d fact g && list_any (λ h. nat_eq h g) gs)
        → list_any (is_reader g) (map (reader d fact) (cond some (h ∷ filter (is_mentioned_by d fact) gs) (filter (is_mentioned_by d fact) gs))) ≡ (is_mentioned_by d fact g && (here || list_any (λ h. nat_eq h g) gs))
    at true e true i rest = ap (λ b. b || list_any (is_reader g) (map (reader d fact) (filter (is_mentioned_by d fact) gs))) i
        ∙ sym (ap (λ b. b && true) (sym (ap (is_mentioned_by d fact) (same_number h g i)) ∙ e))
    at true e false i rest = ap (λ b. b || list_any (is_reader g) (map (reader d fact) (filter (is_mentioned_by d fact) gs))) i ∙ rest
    at false e true i rest = rest ∙ others (is_mentioned_by d fact g) (list_any (λ h. nat_eq h g) gs) (sym (ap (is_mentioned_by d fact) (same_number h g i)) ∙ e)
    at false e false i rest = rest

-- what mentions the fact is a fact
pub mentions_number : (d : Tree) (fact g : ℕ) → is_mentioned_by d fact g ≡ true → IsNumber d.facts g
mentions_number d fact g h = at (fact_at d.facts g) refl h
  where
    at : (o : _) → fact_at d.facts g ≡ o → list_any (is_of fact) (found_mentions d g o) ≡ true → IsNumber d.facts g
    at None e h = absurd cc
    at (Some f) e h = fact_within d.facts g f e

in_order : (names : List (List ℕ)) (d : Accepted) (order : List ℕ) (g : ℕ) → IsAccepted names d → AreByRank d.ranks order → IsNumber d.tree.facts g → list_any (λ h. nat_eq h g) order ≡ true
in_order names d order g accepted is number =
    let found = place_of_fact d.ranks order g is number.0 (omega (arith, number.1, accepted.ranked.count, length_mention_graph d.tree)) in
    list_any_at (λ h. nat_eq h g) order found.0 0 found.1 (ap (λ h. nat_eq h g) found.2 ∙ equal_number g)

pub readers_in_order : (names : List (List ℕ)) (d : Accepted) (fact : ℕ) (order : List ℕ) → IsAccepted names d → AreByRank d.ranks order → AreReaders d fact (with_facts d.tree fact [] order)
readers_in_order names d fact order accepted is =
    subst (AreReaders d fact) (sym (noted_in_order d.tree fact order (order_distinct d.ranks order is)))
    (record {
      mentioning = λ g. among d.tree fact g order ∙ whole g (is_mentioned_by d.tree fact g) refl;
      same = all_are_same d.tree fact (filter (is_mentioned_by d.tree fact) order);
      rising = rising d fact order is;
    })
  where
    whole : (g : ℕ) (b : Bool) → is_mentioned_by d.tree fact g ≡ b → (b && list_any (λ h. nat_eq h g) order) ≡ b
    whole g true e = in_order names d order g accepted is (mentions_number d.tree fact g e)
    whole g false e = refl
