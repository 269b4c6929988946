-- What holds of ranks, in every graph.
use Rattle.std.proofs.Common.{◌≡◌, ℕ, zero, suc, ◌+◌, ◌<◌, ◌≤◌, true, List, [], length, map, get_or, inl, inr, refl, sym, ap, subst, ◌∙◌, arith}
use Rattle.std.specs.List.{range_with_len}
use Rattle.std.proofs.lemmas.List.{get_or_past, get_or-map, length-map, ext_get_or}
use Rattle.std.proofs.lemmas.List.FromFn.{length-map-range_with_len, get_or-map-range_with_len}
use Rattle.std.proofs.lemmas.Slice.Eq.{bytes_eq-Decides}
use Rattle.dict_order.specs.Graph.{Graph, mentioned, Mentions, Leads, IsFact, HasNoCycle}
use Rattle.dict_order.specs.Ranks.{above, rank_of, rank_over, AreRanks, are_ranks}
use Rattle.dict_order.specs.Ranking.{height, HasRank}
use Rattle.dict_order.proofs.ListLaws.{at_most_or_above, above_has, above_greatest, has_map, map_has}
use Rattle.dict_order.proofs.MentionLaws.{mentions_is_fact, mentions_nothing}
use Rattle.dict_order.proofs.HeightLaws.{one_rank, rank_from, rank_exists}

-- ---- ranks fall along mentions

pub falls_once : (g : Graph) (ranks : List ℕ) (fact other : ℕ) → AreRanks g ranks → Mentions g fact other → rank_of ranks other < rank_of ranks fact
falls_once g ranks fact other r m =
    let e = r.each fact (mentions_is_fact g fact other m) in
    let l = above_has (map (rank_of ranks) (mentioned g fact)) (rank_of ranks other) (has_map (rank_of ranks) (mentioned g fact) other m) in
    omega (arith, e, l)

pub falls_along : (g : Graph) (ranks : List ℕ) (n fact other : ℕ) → AreRanks g ranks → Leads g n fact other → rank_of ranks other < rank_of ranks fact
falls_along g ranks zero fact other r l = falls_once g ranks fact other r l
falls_along g ranks (suc n) fact other r l =
    let one = falls_once g ranks fact l.0 r l.1 in
    let rest = falls_along g ranks n l.0 other r l.2 in
    omega (arith, one, rest)

pub no_cycle : (g : Graph) (ranks : List ℕ) → AreRanks g ranks → HasNoCycle g
no_cycle g ranks r = λ fact c. let l = falls_along g ranks c.0 fact fact r c.1 in absurd (omega (arith, l))

-- ---- a rank by what is mentioned

-- what is past the facts has rank 0, as what mentions nothing
rank_past : (g : Graph) (ranks : List ℕ) (place : ℕ) → length ranks ≡ length g → length g ≤ place → rank_of ranks (suc place) ≡ 0
rank_past g ranks place e h = get_or_past ranks place 0 (omega (arith, e, h))

pub each_rank : (g : Graph) (ranks : List ℕ) (fact : ℕ) → AreRanks g ranks → rank_of ranks fact ≡ rank_over ranks (mentioned g fact)
each_rank g ranks zero r = refl
each_rank g ranks (suc place) r = elim (at_most_or_above (length g) place) [
  | inl l ↦ rank_past g ranks place r.count l ∙ sym (ap (rank_over ranks) (mentions_nothing g place l))
  | inr l ↦ r.each (suc place) (omega arith, omega (arith, l))
]

pub rank_of_none : (g : Graph) (ranks : List ℕ) (fact : ℕ) → AreRanks g ranks → mentioned g fact ≡ [] → rank_of ranks fact ≡ 0
rank_of_none g ranks fact r e = each_rank g ranks fact r ∙ ap (rank_over ranks) e

pub one_more : (g : Graph) (ranks : List ℕ) (fact some : ℕ) → AreRanks g ranks → Mentions g fact some → (greatest : ℕ) × Mentions g fact greatest × (rank_of ranks fact ≡ rank_of ranks greatest + 1)
one_more g ranks fact some r m =
    let e = each_rank g ranks fact r in
    let l = falls_once g ranks fact some r m in
    let top = above_greatest (map (rank_of ranks) (mentioned g fact)) (omega (arith, e, l)) in
    let at = map_has (rank_of ranks) (mentioned g fact) top.0 top.1 in
    let i = top.2 in
    let j = at.2 in
    (at.0, at.1, omega (arith, e, i, j))

-- ---- ranks are the heights, so there is one list of them

has_rank_under : (g : Graph) (ranks : List ℕ) (n fact : ℕ) → AreRanks g ranks → rank_of ranks fact < n → HasRank g fact (rank_of ranks fact)
has_rank_under g ranks zero fact r lt = absurd (omega arith)
has_rank_under g ranks (suc n) fact r lt =
    subst (HasRank g fact) (sym (each_rank g ranks fact r))
    (rank_from g fact (rank_of ranks) (λ x m. has_rank_under g ranks n x r (let l = falls_once g ranks fact x r m in omega (arith, l, lt))))

pub has_rank : (g : Graph) (ranks : List ℕ) (fact : ℕ) → AreRanks g ranks → HasRank g fact (rank_of ranks fact)
has_rank g ranks fact r = has_rank_under g ranks (suc (rank_of ranks fact)) fact r (omega arith)

pub only_one : (g : Graph) (ranks others : List ℕ) → AreRanks g ranks → AreRanks g others → ranks ≡ others
only_one g ranks others r o =
    ext_get_or 0 ranks others (r.count ∙ sym o.count)
    (λ place lt. one_rank g (suc place) (rank_of ranks (suc place)) (rank_of others (suc place)) (has_rank g ranks (suc place) r) (has_rank g others (suc place) o))

-- what is no fact has rank 0
no_fact_has_rank : (g : Graph) (place : ℕ) → length g ≤ place → HasRank g (suc place) 0
no_fact_has_rank g place h = record { is = ap (λ (l : List ℕ). above (map (height g 0) l)) (mentions_nothing g place h) }

rank_of_each : (g : Graph) (ranks : List ℕ) → length ranks ≡ length g → ((place : ℕ) → place < length g → HasRank g (suc place) (get_or ranks place 0)) → (fact : ℕ) → HasRank g fact (rank_of ranks fact)
rank_of_each g ranks e h zero = record { is = refl }
rank_of_each g ranks e h (suc place) = elim (at_most_or_above (length g) place) [
  | inl l ↦ subst (HasRank g (suc place)) (sym (rank_past g ranks place e l)) (no_fact_has_rank g place l)
  | inr l ↦ h place l
]

-- a list that gives each fact its rank
pub are_ranks_if : (g : Graph) (ranks : List ℕ) → length ranks ≡ length g → ((place : ℕ) → place < length g → HasRank g (suc place) (get_or ranks place 0)) → AreRanks g ranks
are_ranks_if g ranks e h = let each = rank_of_each g ranks e h in record {
  count = e;
  each = λ fact is. one_rank g fact (rank_of ranks fact) (rank_over ranks (mentioned g fact)) (each fact) (rank_from g fact (rank_of ranks) (λ x m. each x));
}

heights : Graph → List ℕ
heights g = map (λ place. height g (suc (length g)) (suc place)) (range_with_len 0 (length g))

pub ranks_exist : (g : Graph) → HasNoCycle g → (ranks : List ℕ) × AreRanks g ranks
unfolding heights
ranks_exist g acyclic =
    let n : ℕ = length g in
    let h = λ (k : ℕ). height g (suc n) (suc k) in
    (heights g, are_ranks_if g (heights g) (length-map-range_with_len h 0 n) (λ place l. subst (HasRank g (suc place)) (sym (get_or-map-range_with_len h 0 n place place 0 l (omega arith))) (rank_exists g (suc place) acyclic)))

-- ---- the test

rank_at_place : (g : Graph) (ranks : List ℕ) (place : ℕ) → place < length g → get_or (map (rank_over ranks) g) place 0 ≡ rank_over ranks (mentioned g (suc place))
rank_at_place g ranks place lt = get_or-map (rank_over ranks) g place [] 0 lt

fact_from_test : (g : Graph) (ranks : List ℕ) → ranks ≡ map (rank_over ranks) g → (fact : ℕ) → IsFact g fact → rank_of ranks fact ≡ rank_over ranks (mentioned g fact)
fact_from_test g ranks e zero is = absurd (omega (arith, is.0))
fact_from_test g ranks e (suc place) is = ap (λ (l : List ℕ). get_or l place 0) e ∙ rank_at_place g ranks place (omega (arith, is.1))

pub test_tells : (g : Graph) (ranks : List ℕ) → are_ranks g ranks ≡ true → AreRanks g ranks
test_tells g ranks t =
    let e : ranks ≡ map (rank_over ranks) g = (bytes_eq-Decides ranks (map (rank_over ranks) g)).0 t in
    record { count = ap length e ∙ length-map g (rank_over ranks); each = fact_from_test g ranks e }

pub ranks_pass : (g : Graph) (ranks : List ℕ) → AreRanks g ranks → are_ranks g ranks ≡ true
ranks_pass g ranks r =
    (bytes_eq-Decides ranks (map (rank_over ranks) g)).1
    (ext_get_or 0 ranks (map (rank_over ranks) g) (r.count ∙ sym (length-map g (rank_over ranks)))
    (λ place lt.
    let here : place < length g = omega (arith, lt, r.count) in
    r.each (suc place) (omega arith, omega (arith, here)) ∙ sym (rank_at_place g ranks place here)))
