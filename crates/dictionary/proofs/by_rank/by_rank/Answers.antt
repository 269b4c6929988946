use Rattle.std.proofs.Common.{◌≡◌, ℕ, ◌<◌, ◌≤◌, List, length, get_or, subst, rules}
use Rattle.std.specs.List.{range_with_len}
use Rattle.std.specs.List.Sorted.{IsPermutation, IsStableByKey}
use Rattle.std.specs.Ordering.{nat_cmp}
use Rattle.std.proofs.lemmas.List.Sorted.{IsNonDecreasingBy-from_sort_by_key, ties_still_rise}
use Rattle.std.proofs.lemmas.Fn.{always_returns_same}
use Rattle.dict_order.specs.Ranks.{rank_of}
use Rattle.dictionary.proofs.ByRankLaws.{numbers_rise, numbers_sorted}
use Rattle.dictionary.proofs.by_rank.by_rank.Goals as goal

pub returns : goal.returns
returns c =
    let ranks = c.args.ranks.now in
    let list = c.sort_by_key.new.self.items in
    let before : c.in_ok-list.list.items ≡ range_with_len 1 (length ranks) = c.in_ok-list.ensures in
    let rise : (i j : ℕ) → i ≤ j → j < length list → rank_of ranks (get_or list i 0) ≤ rank_of ranks (get_or list j 0) =
    λ i j le low. IsNonDecreasingBy-from_sort_by_key (rank_of ranks) list c.in_ok-sort_by_key.ensures.sorted (λ a r q k. search rules) i j 0 le low in
    record {
      each_once = subst (λ (l : List ℕ). IsPermutation l list) before c.sort_by_key.ensures.permutation;
      ranks_rise = rise;
      numbers_rise = numbers_rise ranks list rise
          (ties_still_rise (λ (n : ℕ). n) (rank_of ranks) _ list (numbers_sorted (length ranks))
          (subst (λ (l : List ℕ). IsStableByKey (rank_of ranks) nat_cmp l list) before (c.sort_by_key.ensures.stable (rank_of ranks) (always_returns_same _ _ _ (λ a r q k. search rules)))));
    }
