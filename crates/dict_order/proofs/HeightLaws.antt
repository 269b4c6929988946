-- How high a fact stands, by mentions in a row; and that a long row of mentions comes back.
use Rattle.std.proofs.Common.{◌≡◌, ℕ, zero, suc, ◌+◌, ◌-◌, ◌<◌, ◌≤◌, min, Bool, true, false, not, cond, List, ◌∷◌, length, map, get_or, set, ◌⊎◌, inl, inr, refl, sym, ap, subst, ◌∙◌, arith, length-set, replicate}
use Rattle.std.proofs.lemmas.List.{length-replicate}
use Rattle.std.proofs.lemmas.List.Sums.{sum_by-cons}
use Rattle.dict_order.specs.Graph.{Graph, mentioned, Mentions, Leads, Reaches, IsFact, HasNoCycle}
use Rattle.dict_order.specs.Ranks.{above}
use Rattle.dict_order.specs.Ranking.{height, HasRank}
use Rattle.dict_order.specs.Walking.{IsSeen, unseen}
use Rattle.dict_order.proofs.ListLaws.{true_or_false, at_most_or_above, above_has, above_greatest, above_min, has_map, map_has, map_same}
use Rattle.dict_order.proofs.MentionLaws.{mentions_is_fact, reaches_on}
use Rattle.dict_order.proofs.WalkLaws.{unseen_set, set_seen, blank, unseen_blank}

height_step : (g : Graph) (j fact : ℕ) → height g j fact ≡ min j (height g (suc j) fact)
height_step g zero fact = omega arith
height_step g (suc j) fact =
    ap above (map_same (height g j) (λ x. min j (height g (suc j) x)) (mentioned g fact) (λ x h. height_step g j x))
    ∙ above_min j (height g (suc j)) (mentioned g fact)

-- fewer mentions in a row show less
height_less : (g : Graph) (d j k fact : ℕ) → k ≡ j + d → height g j fact ≡ min j (height g k fact)
height_less g zero j k fact e =
    let i : k ≡ j = omega arith in
    let s = height_step g j fact in
    rw i (omega (arith, s))
height_less g (suc d) j k fact e =
    let i : k ≡ suc (j + d) = omega arith in
    let less = height_less g d j (j + d) fact refl in
    let s = height_step g (j + d) fact in
    rw i (omega (arith, less, s))

-- a fact with a rank stands as high as its rank, as far as the mentions show it
pub height_of_rank : (g : Graph) (fact rank k : ℕ) → HasRank g fact rank → height g k fact ≡ min k rank
height_of_rank g fact rank k h =
    let a = height_less g k (suc rank) (suc rank + k) fact refl in
    let b = height_less g (suc rank) k (suc rank + k) fact (omega arith) in
    let i = h.is in
    omega (arith, a, b, i)

pub rank_of_height : (g : Graph) (fact k : ℕ) → height g k fact < k → HasRank g fact (height g k fact)
rank_of_height g fact k lt =
    let a = height_less g (k - suc (height g k fact)) (suc (height g k fact)) k fact (omega arith) in
    record { is = omega (arith, a, lt) }

pub one_rank : (g : Graph) (fact r s : ℕ) → HasRank g fact r → HasRank g fact s → r ≡ s
one_rank g fact r s p q =
    let a = height_of_rank g fact r (suc s) p in
    let b = height_of_rank g fact s (suc r) q in
    let i = p.is in
    let j = q.is in
    omega (arith, a, b, i, j)

-- the rank by those of what is mentioned
pub rank_from : (g : Graph) (fact : ℕ) (ranks : ℕ → ℕ) → ((x : ℕ) → Mentions g fact x → HasRank g x (ranks x)) → HasRank g fact (above (map ranks (mentioned g fact)))
rank_from g fact ranks h =
    let top : ℕ = above (map ranks (mentioned g fact)) in
    record {
      is = ap above (map_same (height g top) ranks (mentioned g fact) (λ x m.
          let lt = above_has (map ranks (mentioned g fact)) (ranks x) (has_map ranks (mentioned g fact) x m) in
          let e = height_of_rank g x (ranks x) top (h x m) in
          omega (arith, lt, e)));
    }

pub rank_below : (g : Graph) (fact rank x : ℕ) → HasRank g fact rank → Mentions g fact x → (s : ℕ) × HasRank g x s × (s < rank)
rank_below g fact rank x h m =
    let l = above_has (map (height g rank) (mentioned g fact)) (height g rank x) (has_map (height g rank) (mentioned g fact) x m) in
    let i = h.is in
    let lt : height g rank x < rank = omega (arith, l, i) in
    (height g rank x, rank_of_height g x rank lt, lt)

pub rank_falls : (g : Graph) (n fact rank x : ℕ) → HasRank g fact rank → Leads g n fact x → (s : ℕ) × HasRank g x s × (s < rank)
rank_falls g zero fact rank x h l = rank_below g fact rank x h l
rank_falls g (suc n) fact rank x h l =
    let one = rank_below g fact rank l.0 h l.1 in
    let rest = rank_falls g n l.0 one.0 x one.1 l.2 in
    (rest.0, rest.1, omega (arith, one.2, rest.2))

-- a fact with a rank does not reach itself
pub not_itself : (g : Graph) (fact rank : ℕ) → HasRank g fact rank → Reaches g fact fact → ⊥
not_itself g fact rank h r =
    let f = rank_falls g r.0 fact rank fact h r.1 in
    let e = one_rank g fact rank f.0 h f.1 in
    let lt = f.2 in
    absurd (omega (arith, e, lt))

-- ---- rows of mentions

-- n mentions in a row go on from the fact
Row : Graph → ℕ → ℕ → Type 0
Row g zero fact = Unit {0}
Row g (suc n) fact = (x : ℕ) × Mentions g fact x × Row g n x

row_of : (g : Graph) (k fact : ℕ) → height g k fact ≡ k → Row g k fact
unfolding Row
row_of g zero fact e = tt
row_of g (suc k) fact e =
    let top = above_greatest (map (height g k) (mentioned g fact)) (omega (arith, e)) in
    let at = map_has (height g k) (mentioned g fact) top.0 top.1 in
    let i = top.2 in
    let j = at.2 in
    (at.0, at.1, row_of g k at.0 (omega (arith, e, i, j)))

-- a row that is longer than what was not seen comes back to what was
comes_back : (g : Graph) (k fact : ℕ) (seen : List Bool) → length seen ≡ length g + 1 → ((x : ℕ) → IsSeen seen x → IsFact g x → Reaches g x fact) → unseen seen < k → Row g k fact → (c : ℕ) × Reaches g c c × ((fact ≡ c) ⊎ Reaches g fact c)
unfolding Row
comes_back g zero fact seen len so lt row = absurd (omega arith)
comes_back g (suc k) fact seen len so lt row =
    let is = mentions_is_fact g fact row.0 row.1 in
    let here : fact < length seen = omega (arith, is.1, len) in
    elim (true_or_false (get_or seen fact false)) [
      | inl e ↦ (fact, so fact e is, inl refl)
      | inr e ↦
          let less = unseen_set seen fact here e in
          let on : (x : ℕ) → IsSeen (set seen fact true) x → IsFact g x → Reaches g x row.0 = λ x h isx. elim (set_seen seen fact x h) [
            | inl p ↦ reaches_on g x fact row.0 (so x p isx) row.1
            | inr i ↦ (0, subst (λ (y : ℕ). Mentions g y row.0) (sym i) row.1)
          ] in
          let rest = comes_back g k row.0 (set seen fact true) (length-set seen fact true ∙ len) on (omega (arith, less, lt)) row.2 in (
            rest.0,
            rest.1,
            inr (elim rest.2 [
              | inl i ↦ (0, subst (λ (y : ℕ). Mentions g fact y) i row.1)
              | inr r ↦ (suc r.0, (row.0, row.1, r.1))
            ]),
          )
    ]

abbrev none_seen : ℕ → List Bool
none_seen n = true ∷ replicate n false

none_seen_is : (g : Graph) (fact x : ℕ) → IsSeen (none_seen (length g)) x → IsFact g x → Reaches g x fact
none_seen_is g fact zero h is = absurd (omega (arith, is.0))
none_seen_is g fact (suc x) h is = absurd (blank (length g) x h)

-- a row of more mentions than there are facts leads to a fact that reaches itself
long_row : (g : Graph) (k fact : ℕ) → length g < k → Row g k fact → (c : ℕ) × Reaches g c c × ((fact ≡ c) ⊎ Reaches g fact c)
long_row g k fact lt row =
    comes_back g k fact (none_seen (length g)) (omega (arith, length-replicate (length g) false)) (none_seen_is g fact) (omega (arith, sum_by-cons (λ b. cond (not b) 1 0) true (replicate (length g) false), unseen_blank (length g))) row

-- no rank is above the number of facts
pub rank_small : (g : Graph) (fact rank : ℕ) → HasRank g fact rank → rank ≤ length g
rank_small g fact rank h = elim (at_most_or_above rank (length g)) [
  | inl l ↦ l
  | inr l ↦
      let e = height_of_rank g fact rank rank h in
      let back = long_row g rank fact l (row_of g rank fact (omega (arith, e))) in
      absurd (elim back.2 [
        | inl i ↦ not_itself g fact rank h (subst (λ (x : ℕ). Reaches g x x) (sym i) back.1)
        | inr r ↦ let f = rank_falls g r.0 fact rank back.0 h r.1 in not_itself g back.0 f.0 f.1 back.1
      ])
]

-- where no fact reaches itself, each has a rank
pub rank_exists : (g : Graph) (fact : ℕ) → HasNoCycle g → HasRank g fact (height g (suc (length g)) fact)
rank_exists g fact acyclic =
    let n : ℕ = suc (length g) in
    let s = height_step g n fact in
    elim (at_most_or_above n (height g n fact)) [
      | inl l ↦ let back = long_row g n fact (omega arith) (row_of g n fact (omega (arith, l, s))) in absurd (acyclic back.0 back.1)
      | inr l ↦ rank_of_height g fact n l
    ]
