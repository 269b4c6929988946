-- The number of nodes that an evaluation visits, exactly.
use Rattle.std.specs.Prelude.{◌≡◌, ℕ, suc, ◌+◌, ◌≤◌, Bool, if◌then◌else◌, sum_by}
use Rattle.dict_source.specs.Tree.{Tree, literal, read, switch, many, one, two, pick, Trees, no_trees, tree, Cases, no_cases, a_case}
use Rattle.three_state.specs.declared.res.Res.{Res}
use Rattle.three_state.specs.declared.res.Res.TheVariants.{Complete, Placeholder, Incomplete, Fault}
use Rattle.three_state.specs.Results.{truth}
use Rattle.evaluation.specs.Agreement.{Agree}
use Rattle.evaluation.specs.ByBases.{AgreeIn, Passes}
use Rattle.evaluation.specs.Mentioned.{Each}
use Rattle.evaluation.specs.Over.{Env, over, weight}
use Rattle.evaluation.specs.Resolving.{Names, resolved, resolving_env}
use Rattle.evaluation.specs.SlotsRead.{members_visited}

-- after a condition: the visits of its case where it is true, and those of the cases after it where it is false
abbrev pub visits_after : Res → ℕ → ℕ → ℕ
visits_after (Complete v) given rest = if truth v then given else rest
visits_after (Placeholder v) given rest = if truth v then given else rest
visits_after Incomplete given rest = 0
visits_after (Fault fault) given rest = 0

-- each node once a visit: of a Switch the conditions up to the one that decides, and the outcome that is taken;
-- under a Filter or a Find the condition once at each member at which it is evaluated
abbrev mutual
  pub visits : {C R P S : Type 0} → Env C R P S → S → Tree C R P → ℕ
  visits env at (literal c) = 1
  visits env at (read r) = 1
  visits env at (switch cs) = suc (visits_of_cases env at cs)
  visits env at (many op ts) = suc (visits_of_all env at ts)
  visits env at (one op t) = suc (visits env at t)
  visits env at (two op a b) = suc (visits env at a + visits env at b)
  visits env at (pick op p t) =
      suc (sum_by (λ m. visits env (env.enter at p m) t) (members_visited op (λ m. over env (env.enter at p m) t) (env.source at p)))

  pub visits_of_all : {C R P S : Type 0} → Env C R P S → S → Trees C R P → ℕ
  visits_of_all env at no_trees = 0
  visits_of_all env at (tree t ts) = visits env at t + visits_of_all env at ts

  pub visits_of_cases : {C R P S : Type 0} → Env C R P S → S → Cases C R P → ℕ
  visits_of_cases env at no_cases = 0
  visits_of_cases env at (a_case t o cs) = visits env at t + visits_after (over env at t) (visits env at o) (visits_of_cases env at cs)

-- ---- laws

abbrev pub SomeVisit : (C R P S : Type 0) → Type 0
SomeVisit C R P S = (env : Env C R P S) (at : S) (t : Tree C R P) → 1 ≤ visits env at t

abbrev pub VisitsWithinWeight : (C R P S : Type 0) → Type 0
VisitsWithinWeight C R P S = (env : Env C R P S) (at : S) (t : Tree C R P) → visits env at t ≤ weight env at t

abbrev pub VisitCoincidence : (C R P S : Type 0) → Type 0
VisitCoincidence C R P S = (e f : Env C R P S) (t : Tree C R P) (at : S) → Agree e f at t → visits e at t ≡ visits f at t

abbrev pub VisitCoincidenceIn : (B C R P S : Type 0) → Type 0
VisitCoincidenceIn B C R P S =
    (q : B → R → Bool) (w : B → P → Bool) (on : B → P → B) (k : B → S → Bool) (e f : Env C R P S) → AgreeIn (Passes q) (Passes w) on (Passes k) e f
    → (t : Tree C R P) (b : B) → Each (Passes q) (Passes w) on b t → (at : S) → Passes k b at → visits e at t ≡ visits f at t

abbrev pub ResolvedVisits : (B C R P C' R' P' S : Type 0) → Type 0
ResolvedVisits B C R P C' R' P' S =
    (n : Names B C R P C' R' P') (e : Env C' R' P' S) (t : Tree C R P) (b : B) (at : S)
    → visits e at (resolved n b t) ≡ visits (resolving_env n e) (b, at) t
