-- The facts by rising rank.
use Rattle.std.specs.Prelude.{◌≡◌, ℕ, ◌<◌, ◌≤◌, List, length, slice_index}
use Rattle.std.specs.List.{range_with_len}
use Rattle.std.specs.List.Sorted.{IsPermutation}
use Rattle.dict_order.specs.Graph.{Mentions}
use Rattle.dict_order.specs.MentionGraph.{mention_graph}
use Rattle.dict_order.specs.Ranks.{rank_of}
use Rattle.dict_meaning.specs.Accepted.{Accepted, IsAccepted}

-- each fact stands once in the list, by rising rank, and those of one rank by rising number
pub record AreByRank (ranks list : List ℕ) : Type 0 where
  pub each_once : IsPermutation (range_with_len 1 (length ranks)) list
  pub ranks_rise : (i j : ℕ) → i ≤ j → j < length list → rank_of ranks (slice_index list i) ≤ rank_of ranks (slice_index list j)
  pub numbers_rise : (i j : ℕ) → i ≤ j → j < length list → rank_of ranks (slice_index list i) ≡ rank_of ranks (slice_index list j) → slice_index list i ≤ slice_index list j

-- ---- laws

-- what a fact mentions comes before it
abbrev pub MentionedComesFirst : Type 0
MentionedComesFirst = (names : List (List ℕ)) (d : Accepted) (list : List ℕ) (place other : ℕ) → IsAccepted names d → AreByRank d.ranks list → place < length list
    → Mentions (mention_graph d.tree) (slice_index list place) other → (before : ℕ) × (before < place) × (slice_index list before ≡ other)
