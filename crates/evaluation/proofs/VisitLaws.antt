-- An evaluation visits a node at least, and at most as many as the weight says. What gives the same results visits as many.
use Rattle.std.proofs.Common.{◌≡◌, ℕ, suc, ◌+◌, ◌≤◌, Bool, true, false, if◌then◌else◌, List, [], ◌∷◌, sum_by, refl, sym, ap, ◌∙◌, arith}
use Rattle.std.proofs.lemmas.List.Sums.{sum_by-cons, sum_by-le-sum_by}
use Rattle.dict_source.specs.Tree.{Tree, literal, read, switch, many, one, two, pick, Trees, no_trees, tree, Cases, no_cases, a_case}
use Rattle.dict_source.specs.declared.operators.PickOp.{PickOp}
use Rattle.dict_source.specs.declared.operators.PickOp.TheVariants.{Filter, Find}
use Rattle.three_state.specs.declared.res.Res.{Res}
use Rattle.three_state.specs.declared.res.Res.TheVariants.{Complete, Placeholder, Incomplete, Fault}
use Rattle.three_state.specs.Results.{members_of, truth}
use Rattle.evaluation.specs.Agreement.{Agree, AgreeInAll, AgreeInCases}
use Rattle.evaluation.specs.ByBases.{AgreeIn}
use Rattle.evaluation.specs.Mentioned.{Each}
use Rattle.evaluation.specs.Over.{Env, over, weight, weight_of_all, weight_of_cases}
use Rattle.evaluation.specs.Resolving.{Names, resolved, resolved_all, resolved_cases, resolving_env}
use Rattle.evaluation.specs.SlotsRead.{after_condition, members_visited, up_to_decider}
use Rattle.evaluation.specs.Visits.{visits, visits_after, visits_of_all, visits_of_cases}
use Rattle.evaluation.proofs.Coincide.{SameAt, coincide, is_behind, is_head, sum_same}
use Rattle.evaluation.proofs.Mentions.{agree_in}
use Rattle.evaluation.proofs.ResolvingLaws.{everywhere, resolved-gives}

-- ---- at least one

pub some-visit : {C R P S : Type 0} (env : Env C R P S) (at : S) (t : Tree C R P) → 1 ≤ visits env at t
some-visit env at (literal c) = omega arith
some-visit env at (read r) = omega arith
some-visit env at (switch cs) = omega arith
some-visit env at (many op ts) = omega arith
some-visit env at (one op t) = omega arith
some-visit env at (two op a b) = omega arith
some-visit env at (pick op p t) = omega arith

-- ---- under a Find

none_behind : (f : ℕ → ℕ) (b : Bool) (ms : List ℕ) → sum_by f (if b then [] else ms) ≡ (if b then 0 else sum_by f ms)
none_behind f true ms = refl
none_behind f false ms = refl

behind : (f : ℕ → ℕ) (condition : Res) (ms : List ℕ) → sum_by f (after_condition condition [] ms) ≡ visits_after condition 0 (sum_by f ms)
behind f (Complete v) ms = none_behind f (truth v) ms
behind f (Placeholder v) ms = none_behind f (truth v) ms
behind f Incomplete ms = refl
behind f (Fault fault) ms = refl

-- the visits at the next member, and behind it
pub find-visits : (condition : ℕ → Res) (f : ℕ → ℕ) (m : ℕ) (ms : List ℕ)
    → sum_by f (up_to_decider condition (m ∷ ms)) ≡ f m + visits_after (condition m) 0 (sum_by f (up_to_decider condition ms))
find-visits condition f m ms =
    sum_by-cons f m (after_condition (condition m) [] (up_to_decider condition ms)) ∙ ap (λ n. f m + n) (behind f (condition m) (up_to_decider condition ms))

-- ---- at most the weight

either_within : (b : Bool) (x y w z : ℕ) → x ≤ w → y ≤ z → (if b then x else y) ≤ w + z
either_within true x y w z h k = omega arith
either_within false x y w z h k = omega arith

after_within : (condition : Res) (x y w z : ℕ) → x ≤ w → y ≤ z → visits_after condition x y ≤ w + z
after_within (Complete v) x y w z h k = either_within (truth v) x y w z h k
after_within (Placeholder v) x y w z h k = either_within (truth v) x y w z h k
after_within Incomplete x y w z h k = omega arith
after_within (Fault fault) x y w z h k = omega arith

find_within : (condition : ℕ → Res) (f g : ℕ → ℕ) → ((m : ℕ) → f m ≤ g m) → (ms : List ℕ) → sum_by f (up_to_decider condition ms) ≤ sum_by g ms
find_within condition f g h [] = omega arith
find_within condition f g h (m ∷ ms) =
    let rest = sum_by f (up_to_decider condition ms) in
    omega (arith, find-visits condition f m ms, sum_by-cons g m ms, h m, after_within (condition m) 0 rest 0 (sum_by g ms) (omega arith) (find_within condition f g h ms))

pick_within : (op : PickOp) (condition : ℕ → Res) (source : Res) (f g : ℕ → ℕ) → ((m : ℕ) → f m ≤ g m) → sum_by f (members_visited op condition source) ≤ sum_by g (members_of source)
pick_within Filter condition source f g h = sum_by-le-sum_by f g (members_of source) h
pick_within Find condition source f g h = find_within condition f g h (members_of source)

mutual
  pub visits-within-weight : {C R P S : Type 0} (env : Env C R P S) (at : S) (t : Tree C R P) → visits env at t ≤ weight env at t
  visits-within-weight env at (literal c) = omega arith
  visits-within-weight env at (read r) = omega arith
  visits-within-weight env at (switch cs) = omega (arith, cases_within env at cs)
  visits-within-weight env at (many op ts) = omega (arith, all_within env at ts)
  visits-within-weight env at (one op t) = omega (arith, visits-within-weight env at t)
  visits-within-weight env at (two op a b) = omega (arith, visits-within-weight env at a, visits-within-weight env at b)
  visits-within-weight env at (pick op p t) =
      let within =
      pick_within op (λ m. over env (env.enter at p m) t) (env.source at p) (λ m. visits env (env.enter at p m) t) (λ m. weight env (env.enter at p m) t)
      (λ m. visits-within-weight env (env.enter at p m) t) in
      omega (arith, within)

  all_within : {C R P S : Type 0} (env : Env C R P S) (at : S) (ts : Trees C R P) → visits_of_all env at ts ≤ weight_of_all env at ts
  all_within env at no_trees = omega arith
  all_within env at (tree t ts) = omega (arith, visits-within-weight env at t, all_within env at ts)

  cases_within : {C R P S : Type 0} (env : Env C R P S) (at : S) (cs : Cases C R P) → visits_of_cases env at cs ≤ weight_of_cases env at cs
  cases_within env at no_cases = omega arith
  cases_within env at (a_case t o cs) =
      let behind =
      after_within (over env at t) (visits env at o) (visits_of_cases env at cs) (weight env at o) (weight_of_cases env at cs)
      (visits-within-weight env at o) (cases_within env at cs) in
      omega (arith, visits-within-weight env at t, behind)

-- ---- in environments that agree

find_same : (c d : ℕ → Res) (f g : ℕ → ℕ) (ms : List ℕ) → SameAt c d ms → SameAt f g ms → sum_by f (up_to_decider c ms) ≡ sum_by g (up_to_decider d ms)
find_same c d f g [] h k = refl
find_same c d f g (m ∷ ms) h k =
    let rest = find_same c d f g ms (λ n i. h n (is_behind m ms n i)) (λ n i. k n (is_behind m ms n i)) in
    find-visits c f m ms ∙ rw (h m (is_head m ms), k m (is_head m ms), rest) (sym (find-visits d g m ms))

visited_same : (op : PickOp) (source : Res) (c d : ℕ → Res) (f g : ℕ → ℕ) → SameAt c d (members_of source) → SameAt f g (members_of source)
    → sum_by f (members_visited op c source) ≡ sum_by g (members_visited op d source)
visited_same Filter source c d f g h k = sum_same f g (members_of source) k
visited_same Find source c d f g h k = find_same c d f g (members_of source) h k

mutual
  pub visit-same : {C R P S : Type 0} (e f : Env C R P S) (t : Tree C R P) (at : S) → Agree e f at t → visits e at t ≡ visits f at t
  visit-same e f (literal c) at h = refl
  visit-same e f (read r) at h = refl
  visit-same e f (switch cs) at h = ap suc (visit_same_cases e f cs at h)
  visit-same e f (many op ts) at h = ap suc (visit_same_all e f ts at h)
  visit-same e f (one op t) at h = ap suc (visit-same e f t at h)
  visit-same e f (two op a b) at h = rw (visit-same e f a at h.0, visit-same e f b at h.1) refl
  visit-same e f (pick op p t) at h =
      let condition = λ (m : ℕ). over f (f.enter at p m) t in
      let work = λ (m : ℕ). visits f (f.enter at p m) t in
      ap suc (
      visited_same op (e.source at p) (λ m. over e (e.enter at p m) t) condition (λ m. visits e (e.enter at p m) t) work
      (λ m i. coincide e f t (e.enter at p m) (h.1 m i).1 ∙ ap (λ to. over f to t) (h.1 m i).0)
      (λ m i. visit-same e f t (e.enter at p m) (h.1 m i).1 ∙ ap (λ to. visits f to t) (h.1 m i).0)
      ∙ ap (λ (source : Res). sum_by work (members_visited op condition source)) h.0
      )

  visit_same_all : {C R P S : Type 0} (e f : Env C R P S) (ts : Trees C R P) (at : S) → AgreeInAll e f at ts → visits_of_all e at ts ≡ visits_of_all f at ts
  visit_same_all e f no_trees at h = refl
  visit_same_all e f (tree t ts) at h = rw (visit-same e f t at h.0, visit_same_all e f ts at h.1) refl

  visit_same_cases : {C R P S : Type 0} (e f : Env C R P S) (cs : Cases C R P) (at : S) → AgreeInCases e f at cs → visits_of_cases e at cs ≡ visits_of_cases f at cs
  visit_same_cases e f no_cases at h = refl
  visit_same_cases e f (a_case t o cs) at h = rw (coincide e f t at h.0, visit-same e f t at h.0, visit-same e f o at h.1, visit_same_cases e f cs at h.2) refl

pub visit-same-in : {B C R P S : Type 0} (Q : B → R → Type 0) (W : B → P → Type 0) (on : B → P → B) (K : B → S → Type 0) (e f : Env C R P S) → AgreeIn Q W on K e f → (t : Tree C R P) (b : B) → Each Q W on b t → (at : S) → K b at → visits e at t ≡ visits f at t
visit-same-in Q W on K e f h t b k at l = visit-same e f t at (agree_in Q W on K e f h t b k at l)

-- ---- a resolved tree

mutual
  pub resolved-visits : {B C R P C' R' P' S : Type 0} (n : Names B C R P C' R' P') (e : Env C' R' P' S) (t : Tree C R P) (b : B) (at : S) → visits e at (resolved n b t) ≡ visits (resolving_env n e) (b, at) t
  resolved-visits n e (literal c) b at = refl
  resolved-visits n e (read r) b at = refl
  resolved-visits n e (switch cs) b at = ap suc (resolved-visits-cases n e cs b at)
  resolved-visits n e (many op ts) b at = ap suc (resolved-visits-all n e ts b at)
  resolved-visits n e (one op t) b at = ap suc (resolved-visits n e t b at)
  resolved-visits n e (two op x y) b at = rw (resolved-visits n e x b at, resolved-visits n e y b at) refl
  resolved-visits n e (pick op p t) b at =
      let source = e.source at (n.source b p) in
      ap (λ f. suc (sum_by f (members_visited op (λ m. over e (e.enter at (n.source b p) m) (resolved n (n.base b p) t)) source)))
      (everywhere (λ m. resolved-visits n e t (n.base b p) (e.enter at (n.source b p) m)))
      ∙ ap (λ f. suc (sum_by (λ m. visits (resolving_env n e) (n.base b p, e.enter at (n.source b p) m) t) (members_visited op f source)))
      (everywhere (λ m. resolved-gives n e t (n.base b p) (e.enter at (n.source b p) m)))

  resolved-visits-all : {B C R P C' R' P' S : Type 0} (n : Names B C R P C' R' P') (e : Env C' R' P' S) (ts : Trees C R P) (b : B) (at : S) → visits_of_all e at (resolved_all n b ts) ≡ visits_of_all (resolving_env n e) (b, at) ts
  resolved-visits-all n e no_trees b at = refl
  resolved-visits-all n e (tree t ts) b at = rw (resolved-visits n e t b at, resolved-visits-all n e ts b at) refl

  resolved-visits-cases : {B C R P C' R' P' S : Type 0} (n : Names B C R P C' R' P') (e : Env C' R' P' S) (cs : Cases C R P) (b : B) (at : S) → visits_of_cases e at (resolved_cases n b cs) ≡ visits_of_cases (resolving_env n e) (b, at) cs
  resolved-visits-cases n e no_cases b at = refl
  resolved-visits-cases n e (a_case t o cs) b at = rw (resolved-gives n e t b at, resolved-visits n e t b at, resolved-visits n e o b at, resolved-visits-cases n e cs b at) refl
