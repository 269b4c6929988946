-- The rank of a fact: 0 where it mentions nothing, else 1 more than the greatest rank that it mentions.
use Rattle.std.specs.Prelude.{◌≡◌, ℕ, zero, suc, max, List, [], ◌∷◌, length, map, Bool, slice_index, bytes_eq}
use Rattle.dict_order.specs.Graph.{Graph, IsFact, mentioned}

-- 0 for no numbers, else 1 more than the greatest of them
abbrev pub above : List ℕ → ℕ
above [] = 0
above (x ∷ xs) = max (suc x) (above xs)

-- the number that a list gives to a fact: the first is fact 1's
abbrev pub rank_of : List ℕ → ℕ → ℕ
rank_of ranks zero = 0
rank_of ranks (suc place) = slice_index ranks place

-- the rank of a fact that mentions these
abbrev pub rank_over : List ℕ → List ℕ → ℕ
rank_over ranks mentions = above (map (rank_of ranks) mentions)

-- each fact has its rank
pub record AreRanks (graph : Graph) (ranks : List ℕ) : Type 0 where
  pub count : length ranks ≡ length graph
  pub each : (fact : ℕ) → IsFact graph fact → rank_of ranks fact ≡ rank_over ranks (mentioned graph fact)

-- a test of it that computes
abbrev pub are_ranks : Graph → List ℕ → Bool
are_ranks graph ranks = bytes_eq ranks (map (rank_over ranks) graph)
