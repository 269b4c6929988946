-- What holds of all that each node reads holds of all that an expression does.
use Rattle.std.proofs.Common.{ℕ, Bool, true, false, ◌||◌, nat_eq, IsTrue, if◌then◌else◌, List, [], ◌∷◌, flat_map, refl}
use Rattle.std.specs.List.{list_any}
use Rattle.dict_meaning.proofs.FinalLaws.{all_join}
use Rattle.dict_source.specs.Tree.{Tree, literal, read, switch, many, one, two, pick, Trees, no_trees, tree, Cases, no_cases, a_case}
use Rattle.dict_source.specs.declared.operators.PickOp.{PickOp}
use Rattle.dict_source.specs.declared.operators.PickOp.TheVariants.{Filter, Find}
use Rattle.three_state.specs.declared.res.Res.{Res}
use Rattle.three_state.specs.declared.res.Res.TheVariants.{Complete, Placeholder, Incomplete, Fault}
use Rattle.three_state.specs.Results.{members_of, truth}
use Rattle.evaluation.specs.Agreement.{IsIn}
use Rattle.evaluation.specs.Mentioned.{AllOf, Each, EachInAll, EachInCases}
use Rattle.evaluation.specs.Over.{Env, over}
use Rattle.evaluation.specs.SlotsRead.{ReadBy, after_condition, members_visited, slots_read, slots_read_of_all, slots_read_of_cases, up_to_decider}
use Rattle.evaluation.proofs.Coincide.{is_behind, is_head}

-- ---- lists

pub all_flat : {X : Type 0} (P : X → Type 0) (f : ℕ → List X) (ms : List ℕ) → ((m : ℕ) → IsIn ms m → AllOf P (f m)) → AllOf P (flat_map f ms)
all_flat P f [] h = tt
all_flat P f (m ∷ ms) h = all_join P (f m) (flat_map f ms) (h m (is_head m ms)) (all_flat P f ms (λ n i. h n (is_behind m ms n i)))

all_chosen : {X : Type 0} (P : X → Type 0) (b : Bool) (xs ys : List X) → AllOf P xs → AllOf P ys → AllOf P (if b then xs else ys)
all_chosen P true xs ys h k = h
all_chosen P false xs ys h k = k

all_after : {X : Type 0} (P : X → Type 0) (r : Res) (xs ys : List X) → AllOf P xs → AllOf P ys → AllOf P (after_condition r xs ys)
all_after P (Complete v) xs ys h k = all_chosen P (truth v) xs ys h k
all_after P (Placeholder v) xs ys h k = all_chosen P (truth v) xs ys h k
all_after P Incomplete xs ys h k = tt
all_after P (Fault fault) xs ys h k = tt

-- ---- the members at which a condition is evaluated are listed

chosen_in : (b : Bool) (ms : List ℕ) (n : ℕ) → IsIn (if b then [] else ms) n → IsIn ms n
chosen_in true ms n i = absurd (cc)
chosen_in false ms n i = i

after_in : (r : Res) (ms : List ℕ) (n : ℕ) → IsIn (after_condition r [] ms) n → IsIn ms n
after_in (Complete v) ms n i = chosen_in (truth v) ms n i
after_in (Placeholder v) ms n i = chosen_in (truth v) ms n i
after_in Incomplete ms n i = absurd (cc)
after_in (Fault fault) ms n i = absurd (cc)

decider_in : (condition : ℕ → Res) (ms : List ℕ) (n : ℕ) → IsIn (up_to_decider condition ms) n → IsIn ms n
decider_in condition [] n i = i
decider_in condition (m ∷ ms) n i = by (nat_eq n m) i (λ j. decider_in condition ms n (after_in (condition m) (up_to_decider condition ms) n j))
  where
    by : (same : Bool) → IsTrue (same || list_any (nat_eq n) (after_condition (condition m) [] (up_to_decider condition ms))) → (IsIn (after_condition (condition m) [] (up_to_decider condition ms)) n → IsIn ms n) → IsTrue (same || list_any (nat_eq n) ms)
    by true i rest = refl
    by false i rest = rest i

visited_in : (op : PickOp) (condition : ℕ → Res) (source : Res) (n : ℕ) → IsIn (members_visited op condition source) n → IsIn (members_of source) n
visited_in Filter condition source n i = i
visited_in Find condition source n i = decider_in condition (members_of source) n i

-- ---- expressions

-- P holds of what is read where something of Q or W stands, at the places that an evaluation may reach
pub record AllRead {B C R P S X : Type 0} (Q : B → R → Type 0) (W : B → P → Type 0) (on : B → P → B) (K : B → S → Type 0) (env : Env C R P S) (by : ReadBy R P S X) (H : X → Type 0) : Type 0 where
  pub reads : (b : B) (at : S) → K b at → (r : R) → Q b r → AllOf H (by.reads at r)
  pub source : (b : B) (at : S) → K b at → (p : P) → W b p → AllOf H (by.source at p)
  pub reach : (b : B) (at : S) → K b at → (p : P) → W b p → (m : ℕ) → IsIn (members_of (env.source at p)) m → K (on b p) (env.enter at p m)

mutual
  pub all_read : {B C R P S X : Type 0} (Q : B → R → Type 0) (W : B → P → Type 0) (on : B → P → B) (K : B → S → Type 0) (env : Env C R P S) (by : ReadBy R P S X) (H : X → Type 0) → AllRead Q W on K env by H
      → (t : Tree C R P) (b : B) → Each Q W on b t → (at : S) → K b at → AllOf H (slots_read env by at t)
  all_read Q W on K env by H h (literal c) b k at l = tt
  all_read Q W on K env by H h (read r) b k at l = h.reads b at l r k
  all_read Q W on K env by H h (switch cs) b k at l = all_read_cases Q W on K env by H h cs b k at l
  all_read Q W on K env by H h (many op ts) b k at l = all_read_all Q W on K env by H h ts b k at l
  all_read Q W on K env by H h (one op t) b k at l = all_read Q W on K env by H h t b k at l
  all_read Q W on K env by H h (two op x y) b k at l =
      all_join H (slots_read env by at x) (slots_read env by at y) (all_read Q W on K env by H h x b k.0 at l) (all_read Q W on K env by H h y b k.1 at l)
  all_read Q W on K env by H h (pick op p t) b k at l =
      let condition = λ (m : ℕ). over env (env.enter at p m) t in
      let visited = members_visited op condition (env.source at p) in
      all_join H (by.source at p) (flat_map (λ m. slots_read env by (env.enter at p m) t) visited) (h.source b at l p k.0)
      (all_flat H (λ m. slots_read env by (env.enter at p m) t) visited
      (λ m i. all_read Q W on K env by H h t (on b p) k.1 (env.enter at p m) (h.reach b at l p k.0 m (visited_in op condition (env.source at p) m i))))

  all_read_all : {B C R P S X : Type 0} (Q : B → R → Type 0) (W : B → P → Type 0) (on : B → P → B) (K : B → S → Type 0) (env : Env C R P S) (by : ReadBy R P S X) (H : X → Type 0) → AllRead Q W on K env by H
      → (ts : Trees C R P) (b : B) → EachInAll Q W on b ts → (at : S) → K b at → AllOf H (slots_read_of_all env by at ts)
  all_read_all Q W on K env by H h no_trees b k at l = tt
  all_read_all Q W on K env by H h (tree t ts) b k at l =
      all_join H (slots_read env by at t) (slots_read_of_all env by at ts) (all_read Q W on K env by H h t b k.0 at l) (all_read_all Q W on K env by H h ts b k.1 at l)

  all_read_cases : {B C R P S X : Type 0} (Q : B → R → Type 0) (W : B → P → Type 0) (on : B → P → B) (K : B → S → Type 0) (env : Env C R P S) (by : ReadBy R P S X) (H : X → Type 0) → AllRead Q W on K env by H
      → (cs : Cases C R P) (b : B) → EachInCases Q W on b cs → (at : S) → K b at → AllOf H (slots_read_of_cases env by at cs)
  all_read_cases Q W on K env by H h no_cases b k at l = tt
  all_read_cases Q W on K env by H h (a_case t o cs) b k at l =
      all_join H (slots_read env by at t) (after_condition (over env at t) (slots_read env by at o) (slots_read_of_cases env by at cs)) (all_read Q W on K env by H h t b k.0 at l)
      (all_after H (over env at t) (slots_read env by at o) (slots_read_of_cases env by at cs) (all_read Q W on K env by H h o b k.1 at l) (all_read_cases Q W on K env by H h cs b k.2 at l))
