-- How much work it is to fill a table, whatever the order of the facts.
use Rattle.std.proofs.Common.{◌≡◌, ℕ, zero, suc, ◌+◌, List, [], ◌∷◌, map, length, sum_by, refl, sym, ap, ◌∙◌, arith, add-one}
use Rattle.std.specs.List.{range_with_len}
use Rattle.std.proofs.lemmas.List.Sums.{sum_by-append, sum_by-cons}
use Rattle.std.proofs.lemmas.List.Sorted.{sum_by-IsPermutation}
use Rattle.std.proofs.lemmas.List.FromFn.{sum_by-map-range_with_len_more}
use Rattle.fact_values.specs.declared.slot.Slot.{Slot}
use Rattle.dict_source.specs.Dictionary.{Dictionary as Tree}
use Rattle.answers.specs.Answered.{Answered}
use Rattle.dict_meaning.specs.Accepted.{Accepted}
use Rattle.dictionary.specs.ByRank.{AreByRank}
use Rattle.dict_meaning.specs.Slots.{slots_of, slots_up_to, standing}

pub sum_mapped : {X Y : Type 0} (w : Y → ℕ) (f : X → Y) (xs : List X) → sum_by w (map f xs) ≡ sum_by (λ x. w (f x)) xs
sum_mapped w f [] = refl
sum_mapped w f (x ∷ xs) =
    sum_by-cons w (f x) (map f xs) ∙ ap (λ n. w (f x) + n) (sum_mapped w f xs) ∙ sym (sum_by-cons (λ y. w (f y)) x xs)

up_to_work : (d : Tree) (a : Answered) (w : Slot → ℕ) (n : ℕ) → sum_by w (slots_up_to d a n) ≡ sum_by (sum_by w) (map (slots_of d a) (range_with_len 1 n))
up_to_work d a w zero = refl
up_to_work d a w (suc n) =
    sum_by-append w (slots_up_to d a n) (slots_of d a (suc n))
    ∙ ap (λ k. k + sum_by w (slots_of d a (suc n))) (up_to_work d a w n)
    ∙ sym (sum_by-map-range_with_len_more (sum_by w) (slots_of d a) 1 n (suc n) (omega arith))
    ∙ ap (λ (k : ℕ). sum_by (sum_by w) (map (slots_of d a) (range_with_len 1 k))) (add-one n)

-- in the order of the ranks
pub whole_work : (d : Accepted) (a : Answered) (work : Slot → ℕ) (order : List ℕ) → AreByRank d.ranks order → length d.ranks ≡ length d.tree.facts
    → sum_by (λ n. sum_by work (slots_of d.tree a n)) order ≡ sum_by work (standing d.tree a)
unfolding standing
whole_work d a work order by_rank count =
    sum_by-IsPermutation (λ n. sum_by work (slots_of d.tree a n)) (range_with_len 1 (length d.ranks)) order by_rank.each_once
    ∙ ap (λ (k : ℕ). sum_by (λ n. sum_by work (slots_of d.tree a n)) (range_with_len 1 k)) count
    ∙ sym (sum_mapped (sum_by work) (slots_of d.tree a) (range_with_len 1 (length d.tree.facts)))
    ∙ sym (up_to_work d.tree a work (length d.tree.facts))
