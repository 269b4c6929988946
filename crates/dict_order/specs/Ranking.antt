-- The pass that gives ranks: what is known of each fact, and the path on which it stands.
use Rattle.std.specs.Prelude.{◌≡◌, ℕ, zero, suc, ◌+◌, ◌<◌, List, [], ◌∷◌, length, map, Bool, true, false, count_by, slice_index, slice_index_or}
use Rattle.dict_order.specs.Graph.{Graph, IsFact, mentioned, Mentions, Has}
use Rattle.dict_order.specs.Ranks.{above}
use Rattle.dict_order.specs.declared.ranks.Mark.{Mark}
use Rattle.dict_order.specs.declared.ranks.Mark.TheVariants.{New, Open, Ranked}

abbrev pub is_new : Mark → Bool
is_new New = true
is_new (Open passed) = false
is_new (Ranked rank) = false

abbrev pub is_open : Mark → Bool
is_open New = false
is_open (Open passed) = true
is_open (Ranked rank) = false

abbrev pub is_ranked : Mark → Bool
is_ranked New = false
is_ranked (Open passed) = false
is_ranked (Ranked rank) = true

-- how many of its mentions are known to be ranked
abbrev pub passed_of : Mark → ℕ
passed_of New = 0
passed_of (Open passed) = passed
passed_of (Ranked rank) = 0

abbrev pub rank_at : Mark → ℕ
rank_at New = 0
rank_at (Open passed) = 0
rank_at (Ranked rank) = rank

abbrev pub mark_of : List Mark → ℕ → Mark
mark_of marks fact = slice_index_or marks fact New

-- the first so many of the mentions are ranked
abbrev pub AreRanked : List Mark → ℕ → List ℕ → Type 0
AreRanked marks count mentions = (k : ℕ) → k < count → k < length mentions → is_ranked (mark_of marks (slice_index mentions k)) ≡ true

-- the rank over what these marks give
abbrev pub rank_by : List Mark → List ℕ → ℕ
rank_by marks mentions = above (map (λ fact. rank_at (mark_of marks fact)) mentions)

-- how many are new
abbrev pub unmet : List Mark → ℕ
unmet marks = count_by is_new marks

-- the rank of a fact as far as so many mentions in a row show it
abbrev pub height : Graph → ℕ → ℕ → ℕ
height graph zero fact = 0
height graph (suc n) fact = above (map (height graph n) (mentioned graph fact))

-- this is the rank of the fact: one mention more shows no more
pub record HasRank (graph : Graph) (fact rank : ℕ) : Type 0 where
  pub is : height graph (suc rank) fact ≡ rank

-- each fact of the path mentions the next
abbrev pub IsTrail : Graph → List ℕ → Type 0
IsTrail graph [] = Unit {0}
IsTrail graph (a ∷ []) = Unit {0}
IsTrail graph (a ∷ b ∷ path) = Mentions graph a b × IsTrail graph (b ∷ path)

-- how far the pass has come
pub record Pass (graph : Graph) (marks : List Mark) (path : List ℕ) : Type 0 where
  pub len : length marks ≡ length graph + 1
  pub ranked : (fact : ℕ) → is_ranked (mark_of marks fact) ≡ true → HasRank graph fact (rank_at (mark_of marks fact))
  pub passed : (fact : ℕ) → AreRanked marks (passed_of (mark_of marks fact)) (mentioned graph fact)
  pub on_path : (fact : ℕ) → is_open (mark_of marks fact) ≡ true → Has path fact
  pub open_ones : (fact : ℕ) → Has path fact → is_open (mark_of marks fact) ≡ true
  pub facts : (fact : ℕ) → Has path fact → IsFact graph fact
  pub trail : IsTrail graph path

-- no fact becomes new again
abbrev pub StayMet : List Mark → List Mark → Type 0
StayMet before after = (fact : ℕ) → is_new (mark_of before fact) ≡ false → is_new (mark_of after fact) ≡ false
