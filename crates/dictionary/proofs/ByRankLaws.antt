-- The facts by rising rank.
use Rattle.std.proofs.Common.{◌≡◌, ℕ, zero, suc, ◌+◌, ◌<◌, ◌≤◌, ◌-◌, Bool, true, false, cond, ◌==◌, nat_lt, List, length, get_or, inl, inr, refl, sym, ap, subst, ◌∙◌, arith, add-one}
use Rattle.std.specs.List.{range_with_len, Contains}
use Rattle.std.specs.List.Sorted.{IsSortedByKey}
use Rattle.std.specs.Ordering.{is_lt, nat_cmp}
use Rattle.std.proofs.lemmas.Bool.{le-ltb}
use Rattle.std.proofs.lemmas.List.{get_or_default}
use Rattle.std.proofs.lemmas.List.Elements.{Contains-get_or}
use Rattle.std.proofs.lemmas.List.FromFn.{get_or-range_with_len, length-range_with_len}
use Rattle.std.proofs.lemmas.List.Sorted.{Contains-permutation, IsPermutation-sym}
use Rattle.dict_order.specs.Graph.{Mentions}
use Rattle.dict_order.specs.MentionGraph.{mention_graph}
use Rattle.dict_order.specs.Ranks.{AreRanks, rank_of}
use Rattle.dict_order.proofs.DictionaryLaws.{length_mention_graph, mentions_facts}
use Rattle.dict_order.proofs.ListLaws.{at_most_or_above}
use Rattle.dict_order.proofs.RankLaws.{falls_once}
use Rattle.dict_source.specs.Dictionary.{Dictionary as Tree}
use Rattle.dict_source.specs.Finding.{IsNumber}
use Rattle.dictionary.specs.ByRank.{AreByRank}

-- ---- the numbers are sorted before the sort by rank

tested_false : {A : Type 0} (test : A → Bool) (x y z : A) (b c : Bool) → test y ≡ false → test z ≡ false → b ≡ false → test (cond b x (cond c y z)) ≡ false
tested_false test x y z true c h k e = absurd cc
tested_false test x y z false true h k e = h
tested_false test x y z false false h k e = k

not_less : (x y : ℕ) → y ≤ x → is_lt (nat_cmp x y) ≡ false
not_less x y h = tested_false is_lt _ _ _ (nat_lt x y) (x == y) refl refl (le-ltb x y h)

pub numbers_sorted : (count : ℕ) → IsSortedByKey (λ (n : ℕ). n) nat_cmp (range_with_len 1 count)
numbers_sorted count k d low high =
    let small : k + 1 < count = omega (arith, high, length-range_with_len 1 count) in
    let one = get_or-range_with_len 1 count k d (omega (arith, small)) in
    let two = get_or-range_with_len 1 count (k + 1) d small in
    not_less (get_or (range_with_len 1 count) (k + 1) d) (get_or (range_with_len 1 count) k d) (omega (arith, one, two))

-- ---- neighbours of one rank stand by number, and so do all of one rank

module _ (ranks list : List ℕ)
    (rise : (i j : ℕ) → i ≤ j → j < length list → rank_of ranks (get_or list i 0) ≤ rank_of ranks (get_or list j 0))
    (ties : (k d : ℕ) → k + 1 < length list → rank_of ranks (get_or list k d) ≡ rank_of ranks (get_or list (k + 1) d) → get_or list k d ≤ get_or list (k + 1) d) where
  rise_along : (n i j : ℕ) → i + n ≡ j → j < length list → rank_of ranks (get_or list i 0) ≡ rank_of ranks (get_or list j 0) → get_or list i 0 ≤ get_or list j 0
  rise_along zero i j e low same = let s : i ≡ j = omega arith in subst (λ (k : ℕ). get_or list i 0 ≤ get_or list k 0) s (omega arith)
  rise_along (suc n) i zero e low same = absurd (omega arith)
  rise_along (suc n) i (suc j) e low same =
      let next : get_or list (j + 1) 0 ≡ get_or list (suc j) 0 = ap (λ (k : ℕ). get_or list k 0) (add-one j) in
      let before = rise i j (omega arith) (omega arith) in
      let after = rise j (suc j) (omega arith) low in
      let first = rise_along n i j (omega arith) (omega arith) (omega (arith, before, after, same)) in
      let last = ties j 0 (omega arith) (omega (arith, before, after, same, ap (rank_of ranks) next)) in
      omega (arith, first, last, next)

  pub numbers_rise : (i j : ℕ) → i ≤ j → j < length list → rank_of ranks (get_or list i 0) ≡ rank_of ranks (get_or list j 0) → get_or list i 0 ≤ get_or list j 0
  numbers_rise i j le low same = rise_along (j - i) i j (omega arith) low same

-- ---- each fact has a place, and what is mentioned an earlier one

pub place_of_fact : (ranks list : List ℕ) (fact : ℕ) → AreByRank ranks list → 0 < fact → fact ≤ length ranks → (place : ℕ) × (place < length list) × (get_or list place 0 ≡ fact)
place_of_fact ranks list zero is low high = absurd (omega arith)
place_of_fact ranks list (suc n) is low high =
    let at = get_or-range_with_len 1 (length ranks) n 0 (omega arith) in
    let same : get_or (range_with_len 1 (length ranks)) n 0 ≡ suc n = omega (arith, at) in
    let there = subst (Contains (range_with_len 1 (length ranks))) same (Contains-get_or (range_with_len 1 (length ranks)) n 0 (omega (arith, length-range_with_len 1 (length ranks)))) in
    let found = Contains-permutation (range_with_len 1 (length ranks)) list (suc n) is.each_once there in
    (found.0, found.1, get_or_default list found.0 0 (suc n) found.1 ∙ found.2)

pub mentioned_first : (d : Tree) (ranks list : List ℕ) (place other : ℕ) → AreRanks (mention_graph d) ranks → AreByRank ranks list → place < length list
    → Mentions (mention_graph d) (get_or list place 0) other → (before : ℕ) × (before < place) × (get_or list before 0 ≡ other)
mentioned_first d ranks list place other ranked is low m =
    let fact = mentions_facts d (get_or list place 0) other m in
    let found = place_of_fact ranks list other is fact.0 (omega (arith, fact.1, ranked.count)) in
    let falls = falls_once (mention_graph d) ranks (get_or list place 0) other ranked m in
    elim (at_most_or_above place found.0) [
      | inl le ↦ let up = is.ranks_rise place found.0 le found.1 in absurd (omega (arith, up, falls, ap (rank_of ranks) found.2))
      | inr lt ↦ (found.0, lt, found.2)
    ]

pub fact_at_place : (ranks list : List ℕ) (place : ℕ) → AreByRank ranks list → place < length list → (1 ≤ get_or list place 0) × (get_or list place 0 ≤ length ranks)
fact_at_place ranks list place is low =
    let numbers = range_with_len 1 (length ranks) in
    let found = Contains-permutation list numbers (get_or list place 0) (IsPermutation-sym numbers list is.each_once) (Contains-get_or list place 0 low) in
    let high : found.0 < length ranks = omega (arith, found.1, length-range_with_len 1 (length ranks)) in
    let number = get_or-range_with_len 1 (length ranks) found.0 (get_or list place 0) high in
    (omega (arith, number, found.2), omega (arith, number, found.2, high))

-- the same of a dictionary's facts
pub facts_by_rank : (d : Tree) (ranks list order : List ℕ) → AreRanks (mention_graph d) ranks → AreByRank ranks order → list ≡ order → (place : ℕ) → place < length list → IsNumber d.facts (get_or list place 0)
facts_by_rank d ranks list order ranked is same place low =
    let by_rank = subst (AreByRank ranks) (sym same) is in
    let fact = fact_at_place ranks list place by_rank low in
    (fact.0, omega (arith, fact.1, ranked.count, length_mention_graph d))
