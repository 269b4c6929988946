-- The pass that gives ranks: what each of its steps keeps.
use Rattle.std.proofs.Common.{◌≡◌, ◌≢◌, ℕ, zero, suc, ◌+◌, ◌<◌, true, false, List, [], ◌∷◌, ◌++◌, length, map, get_or, set, drop, inl, inr, refl, sym, ap, subst, ◌∙◌, arith, cond, length-set, get_or-set_same, get_or-set_other, true≢false, replicate}
use Rattle.std.proofs.lemmas.Bool.{cases_eq}
use Rattle.std.proofs.lemmas.List.Sums.{sum_by-set}
use Rattle.std.proofs.lemmas.List.{get_or-map, length-map, length-replicate}
use Rattle.dict_order.specs.Graph.{Graph, mentioned, Has, Mentions, IsFact, HasCycle, MentionsFacts}
use Rattle.dict_order.specs.Ranks.{AreRanks}
use Rattle.dict_order.specs.Ranking.{is_new, is_open, is_ranked, passed_of, rank_at, mark_of, AreRanked, rank_by, unmet, HasRank, IsTrail, Pass}
use Rattle.dict_order.specs.declared.ranks.Mark.{Mark}
use Rattle.dict_order.specs.declared.ranks.Mark.TheVariants.{New, Open, Ranked}
use Rattle.dict_order.proofs.ListLaws.{has_append, has_last, has_at, has_cases, has_place}
use Rattle.dict_order.proofs.MentionLaws.{trail_front, trail_on, trail_reaches, reaches_on}
use Rattle.dict_order.proofs.HeightLaws.{rank_from, not_itself}
use Rattle.dict_order.proofs.RankLaws.{are_ranks_if}

-- ---- marks

-- what holds of each mark once one was set
each_set : (P : ℕ → Mark → Type 0) (marks : List Mark) (fact : ℕ) (mark : Mark) → fact < length marks → P fact mark → ((x : ℕ) → x ≢ fact → P x (mark_of marks x)) → (x : ℕ) → P x (mark_of (set marks fact mark) x)
each_set P marks fact mark lt here others x = elim (cases_eq x fact) [
  | inl e ↦ rw (e, get_or-set_same marks fact mark New lt) here
  | inr n ↦ rw (get_or-set_other marks fact x mark New n) (others x n)
]

kinds : (mark : Mark) → is_new mark ≡ false → is_ranked mark ≡ false → is_open mark ≡ true
kinds (Open k) n r = refl
kinds _ n r = cc

open_not_ranked : (mark : Mark) → is_open mark ≡ true → is_ranked mark ≡ true → ⊥
open_not_ranked New o r = cc
open_not_ranked _ o r = cc

open_not_new : (mark : Mark) → is_open mark ≡ true → is_new mark ≡ false
open_not_new New o = cc
open_not_new _ o = refl

new_not_ranked : (mark : Mark) → is_new mark ≡ true → is_ranked mark ≡ true → ⊥
new_not_ranked New o r = cc
new_not_ranked _ o r = cc

ranked_or_open : (mark : Mark) → is_new mark ≡ false → (is_open mark ≡ true → ⊥) → is_ranked mark ≡ true
ranked_or_open New n o = cc
ranked_or_open (Open k) n o = absurd (o refl)
ranked_or_open (Ranked k) n o = refl

-- how many are new, once one was set
unmet_with : (marks : List Mark) (fact : ℕ) (mark : Mark) → fact < length marks → unmet (set marks fact mark) + cond (is_new (mark_of marks fact)) 1 0 ≡ unmet marks + cond (is_new mark) 1 0
unmet_with marks fact mark lt = sum_by-set (λ m. cond (is_new m) 1 0) marks fact mark New lt

pub unmet_set : (marks : List Mark) (fact : ℕ) (mark : Mark) → fact < length marks → is_new (mark_of marks fact) ≡ false → is_new mark ≡ false → unmet (set marks fact mark) ≡ unmet marks
unmet_set marks fact mark lt o n = let e = rw (o, n) at (unmet_with marks fact mark lt) in omega (arith, e)

-- ---- steps

has_mark : (g : Graph) (marks : List Mark) (fact : ℕ) → IsFact g fact → length marks ≡ length g + 1 → fact < length marks
has_mark g marks fact is e = omega (arith, is.1, e)

-- all mentions are ranked once all are passed
pub all_ranked : (g : Graph) (marks : List Mark) (fact passed : ℕ) → AreRanked marks passed (mentioned g fact) → passed ≡ length (mentioned g fact) → (x : ℕ) → Mentions g fact x → is_ranked (mark_of marks x) ≡ true
all_ranked g marks fact passed r e x m =
    let p = has_place (mentioned g fact) x m in
    subst (λ (y : ℕ). is_ranked (mark_of marks y) ≡ true) p.2 (r p.0 (omega (arith, p.1, e)) p.1)

pub rank_is : (g : Graph) (marks : List Mark) (path : List ℕ) (fact : ℕ) → Pass g marks path → ((x : ℕ) → Mentions g fact x → is_ranked (mark_of marks x) ≡ true) → HasRank g fact (rank_by marks (mentioned g fact))
rank_is g marks path fact p all = rank_from g fact (λ x. rank_at (mark_of marks x)) (λ x m. p.ranked x (all x m))

-- a mark that was no rank is set, and the path is another, by what the new mark says of its fact
pass_set : (g : Graph) (marks : List Mark) (path after : List ℕ) (fact : ℕ) (mark : Mark) → Pass g marks path → IsFact g fact → (is_ranked (mark_of marks fact) ≡ true → ⊥)
    → (is_ranked mark ≡ true → HasRank g fact (rank_at mark)) → AreRanked marks (passed_of mark) (mentioned g fact) → (is_open mark ≡ true → Has after fact) → (Has after fact → is_open mark ≡ true)
    → ((x : ℕ) → x ≢ fact → Has path x → Has after x) → ((x : ℕ) → x ≢ fact → Has after x → Has path x) → ((x : ℕ) → Has after x → IsFact g x) → IsTrail g after
    → Pass g (set marks fact mark) after
pass_set g marks path after fact mark p is old rank passed on off to from facts trail =
    let lt : fact < length marks = has_mark g marks fact is p.len in
    let stays : (x : ℕ) → is_ranked (mark_of marks x) ≡ true → is_ranked (mark_of (set marks fact mark) x) ≡ true =
    each_set (λ x m. is_ranked (mark_of marks x) ≡ true → is_ranked m ≡ true) marks fact mark lt (λ r. absurd (old r)) (λ x n r. r) in record {
      len = length-set marks fact mark ∙ p.len;
      ranked = each_set (λ x m. is_ranked m ≡ true → HasRank g x (rank_at m)) marks fact mark lt rank (λ x n. p.ranked x);
      passed = each_set (λ x m. AreRanked (set marks fact mark) (passed_of m) (mentioned g x)) marks fact mark lt
          (λ k l m. stays (get_or (mentioned g fact) k 0) (passed k l m)) (λ x n k l m. stays (get_or (mentioned g x) k 0) (p.passed x k l m));
      on_path = each_set (λ x m. is_open m ≡ true → Has after x) marks fact mark lt on (λ x n o. to x n (p.on_path x o));
      open_ones = each_set (λ x m. Has after x → is_open m ≡ true) marks fact mark lt off (λ x n h. p.open_ones x (from x n h));
      facts = facts;
      trail = trail;
    }

not_last : (path : List ℕ) (fact x : ℕ) → x ≢ fact → Has (path ++ fact ∷ []) x → Has path x
not_last path fact x n h = elim (has_cases path fact x h) [ inl a ↦ a | inr i ↦ absurd (n i) ]

-- the last fact of the path is ranked
pub ranks_last : (g : Graph) (marks : List Mark) (path : List ℕ) (fact rank : ℕ) → Pass g marks (path ++ fact ∷ []) → HasRank g fact rank → Pass g (set marks fact (Ranked rank)) path
ranks_last g marks path fact rank p h =
    let here = has_last path fact in
    pass_set g marks (path ++ fact ∷ []) path fact (Ranked rank) p (p.facts fact here) (open_not_ranked (mark_of marks fact) (p.open_ones fact here))
    (λ r. h) (λ k l m. absurd (omega (arith, l))) (λ o. absurd (true≢false (sym o))) (λ q. absurd (not_itself g fact rank h (trail_reaches g path fact fact p.trail q)))
    (not_last path fact) (λ x n. has_append path (fact ∷ []) x) (λ x q. p.facts x (has_append path (fact ∷ []) x q)) (trail_front g path fact p.trail)

-- more mentions of a fact of the path are passed
passes_on : (g : Graph) (marks : List Mark) (path : List ℕ) (fact passed : ℕ) → Pass g marks path → Has path fact → AreRanked marks passed (mentioned g fact) → Pass g (set marks fact (Open passed)) path
passes_on g marks path fact passed p here r =
    pass_set g marks path path fact (Open passed) p (p.facts fact here) (open_not_ranked (mark_of marks fact) (p.open_ones fact here))
    (λ k. absurd (true≢false (sym k))) r (λ o. here) (λ q. refl) (λ x n q. q) (λ x n q. q) p.facts p.trail

-- the path goes on to a new fact
pub enters : (g : Graph) (marks : List Mark) (path : List ℕ) (fact : ℕ) → Pass g marks path → is_new (mark_of marks fact) ≡ true → IsFact g fact → IsTrail g (path ++ fact ∷ []) → Pass g (set marks fact (Open 0)) (path ++ fact ∷ [])
enters g marks path fact p new is t =
    pass_set g marks path (path ++ fact ∷ []) fact (Open 0) p is (new_not_ranked (mark_of marks fact) new)
    (λ k. absurd (true≢false (sym k))) (λ k l m. absurd (omega (arith, l))) (λ o. has_last path fact) (λ q. refl)
    (λ x n. has_append path (fact ∷ []) x) (not_last path fact) (λ x q. elim (has_cases path fact x q) [ inl a ↦ p.facts x a | inr i ↦ subst (IsFact g) (sym i) is ]) t

-- the path goes on to a new fact that its last one mentions
pub goes_to : (g : Graph) (marks : List Mark) (path : List ℕ) (fact passed other : ℕ) → MentionsFacts g → Pass g marks (path ++ fact ∷ []) → AreRanked marks passed (mentioned g fact) → Mentions g fact other → is_new (mark_of marks other) ≡ true → Pass g (set (set marks fact (Open passed)) other (Open 0)) ((path ++ fact ∷ []) ++ other ∷ [])
goes_to g marks path fact passed other w p r m new =
    let here = has_last path fact in
    let differs : other ≢ fact = λ e. true≢false (sym (subst (λ (y : ℕ). is_new (mark_of marks y) ≡ true) e new) ∙ open_not_new (mark_of marks fact) (p.open_ones fact here)) in
    enters g (set marks fact (Open passed)) (path ++ fact ∷ []) other (passes_on g marks (path ++ fact ∷ []) fact passed p here r) (rw (get_or-set_other marks fact other (Open passed) New differs) new) (w fact other m) (trail_on g path fact other p.trail m)

-- a mention of a fact of the path closes a cycle
pub closes : (g : Graph) (marks : List Mark) (path : List ℕ) (fact other : ℕ) → Pass g marks (path ++ fact ∷ []) → Mentions g fact other → is_new (mark_of marks other) ≡ false → is_ranked (mark_of marks other) ≡ false → HasCycle g
closes g marks path fact other p m new ranked = elim (has_cases path fact other (p.on_path other (kinds (mark_of marks other) new ranked))) [
  | inl q ↦ (other, reaches_on g other fact other (trail_reaches g path fact other p.trail q) m)
  | inr e ↦ (other, (0, subst (λ (y : ℕ). Mentions g y other) (sym e) m))
]

-- ---- the same by the list of mentions that the code has

pub last_is_fact : (g : Graph) (marks : List Mark) (path : List ℕ) (fact : ℕ) → Pass g marks (path ++ fact ∷ []) → IsFact g fact
last_is_fact g marks path fact p = p.facts fact (has_last path fact)

pub last_has_mark : (g : Graph) (marks : List Mark) (path : List ℕ) (fact : ℕ) → Pass g marks (path ++ fact ∷ []) → fact < length marks
last_has_mark g marks path fact p = has_mark g marks fact (last_is_fact g marks path fact p) p.len

pub last_is_met : (g : Graph) (marks : List Mark) (path : List ℕ) (fact : ℕ) → Pass g marks (path ++ fact ∷ []) → is_new (mark_of marks fact) ≡ false
last_is_met g marks path fact p = open_not_new (mark_of marks fact) (p.open_ones fact (has_last path fact))

pub last_rank : (g : Graph) (marks : List Mark) (path : List ℕ) (fact : ℕ) (listed : List ℕ) (passed : ℕ) → Pass g marks (path ++ fact ∷ []) → listed ≡ mentioned g fact → AreRanked marks passed listed → passed ≡ length listed → HasRank g fact (rank_by marks listed)
last_rank g marks path fact listed passed p e =
    let P : List ℕ → Type 0 = λ l. (AreRanked marks passed l → passed ≡ length l → HasRank g fact (rank_by marks l)) in
    subst P (sym e) (λ r i. rank_is g marks (path ++ fact ∷ []) fact p (all_ranked g marks fact passed r i))

pub listed_is_mentioned : (g : Graph) (fact : ℕ) (listed : List ℕ) (place : ℕ) → listed ≡ mentioned g fact → place < length listed → Mentions g fact (get_or listed place 0)
listed_is_mentioned g fact listed place e lt = subst (λ (l : List ℕ). Has l (get_or listed place 0)) e (has_at listed place lt)

pub listed_has_mark : (g : Graph) (marks : List Mark) (path : List ℕ) (fact : ℕ) (listed : List ℕ) (place : ℕ) → MentionsFacts g → Pass g marks path → listed ≡ mentioned g fact → place < length listed → get_or listed place 0 < length marks
listed_has_mark g marks path fact listed place w p e lt = has_mark g marks (get_or listed place 0) (w fact (get_or listed place 0) (listed_is_mentioned g fact listed place e lt)) p.len

-- one that is new is met, where the last of the path is open
pub fewer_unmet : (g : Graph) (marks : List Mark) (path : List ℕ) (fact passed other : ℕ) → Pass g marks (path ++ fact ∷ []) → other < length marks → is_new (mark_of marks other) ≡ true → unmet (set (set marks fact (Open passed)) other (Open 0)) + 1 ≡ unmet marks
fewer_unmet g marks path fact passed other p lt new =
    let met = last_is_met g marks path fact p in
    let differs : other ≢ fact = λ e. true≢false (sym (subst (λ (y : ℕ). is_new (mark_of marks y) ≡ true) e new) ∙ met) in
    let same = unmet_set marks fact (Open passed) (last_has_mark g marks path fact p) met refl in
    let less = rw (get_or-set_other marks fact other (Open passed) New differs, new) at (unmet_with (set marks fact (Open passed)) other (Open 0) (omega (arith, lt, length-set marks fact (Open passed)))) in
    omega (arith, same, less)

-- ---- the begin and the end

abbrev pub all_new : ℕ → List Mark
all_new n = replicate n New

new_at : (n fact : ℕ) → mark_of (all_new n) fact ≡ New
new_at zero fact = refl
new_at (suc n) zero = refl
new_at (suc n) (suc fact) = new_at n fact

pub begins : (g : Graph) (marks : List Mark) → marks ≡ all_new (length g + 1) → Pass g marks []
begins g marks e =
    let at = λ (x : ℕ). (ap (λ (l : List Mark). mark_of l x) e ∙ new_at (length g + 1) x) in record {
      len = ap length e ∙ length-replicate (length g + 1) New;
      ranked = λ x r. absurd (true≢false (sym r ∙ ap is_ranked (at x)));
      passed = λ x k l m. absurd (let z = ap passed_of (at x) in omega (arith, z, l));
      on_path = λ x o. absurd (true≢false (sym o ∙ ap is_open (at x)));
      open_ones = λ x q. absurd q;
      facts = λ x q. absurd q;
      trail = tt;
    }

-- what was met is ranked where nothing is on the path
pub met_is_ranked : (g : Graph) (marks : List Mark) (fact : ℕ) → Pass g marks [] → is_new (mark_of marks fact) ≡ false → is_ranked (mark_of marks fact) ≡ true
met_is_ranked g marks fact p n = ranked_or_open (mark_of marks fact) n (p.on_path fact)

rank_at_place : (marks : List Mark) (n place : ℕ) → length marks ≡ n + 1 → place < n → get_or (map rank_at (drop 1 marks)) place 0 ≡ rank_at (mark_of marks (suc place))
rank_at_place [] n place e l = absurd (omega arith)
rank_at_place (mark ∷ marks) n place e l = get_or-map rank_at marks place New 0 (omega arith)

count_of : (marks : List Mark) (n : ℕ) → length marks ≡ n + 1 → length (map rank_at (drop 1 marks)) ≡ n
count_of [] n e = absurd (omega arith)
count_of (mark ∷ marks) n e = omega (arith, length-map marks rank_at, e)

pub ends : (g : Graph) (marks : List Mark) → Pass g marks [] → ((fact : ℕ) → IsFact g fact → is_new (mark_of marks fact) ≡ false) → AreRanks g (map rank_at (drop 1 marks))
ends g marks p met =
    are_ranks_if g (map rank_at (drop 1 marks)) (count_of marks (length g) p.len) (λ place l. subst (HasRank g (suc place)) (sym (rank_at_place marks (length g) place p.len l))
    (p.ranked (suc place) (met_is_ranked g marks (suc place) p (met (suc place) (omega arith, omega (arith, l))))))
