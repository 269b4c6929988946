-- A resolved tree gives what its source gives, weighs as much and reads the same.
use Rattle.std.proofs.Common.{◌≡◌, ℕ, suc, ◌++◌, sum_by, flat_map, refl, ap, ◌∙◌}
use Rattle.dict_source.specs.Tree.{Tree, literal, read, switch, many, one, two, pick, Trees, no_trees, tree, Cases, no_cases, a_case}
use Rattle.three_state.specs.Results.{members_of, switch_of}
use Rattle.evaluation.specs.Over.{Env, over, over_all, over_cases, many_of, one_of, pick_of, weight, weight_of_all, weight_of_cases}
use Rattle.evaluation.specs.Resolving.{Names, resolved, resolved_all, resolved_cases, resolving_env, resolving_reads}
use Rattle.evaluation.specs.SlotsRead.{ReadBy, members_visited, slots_read, slots_read_of_all, slots_read_of_cases}

pub everywhere : {A B : Type 0} {f g : A → B} → ((x : A) → f x ≡ g x) → f ≡ g
everywhere h = λ i x. h x i

mutual
  pub resolved-gives : {B C R P C' R' P' S : Type 0} (n : Names B C R P C' R' P') (e : Env C' R' P' S) (t : Tree C R P) (b : B) (at : S) → over e at (resolved n b t) ≡ over (resolving_env n e) (b, at) t
  resolved-gives n e (literal c) b at = refl
  resolved-gives n e (read r) b at = refl
  resolved-gives n e (switch cs) b at = ap switch_of (resolved-gives-cases n e cs b at)
  resolved-gives n e (many op ts) b at = ap (many_of op) (resolved-gives-all n e ts b at)
  resolved-gives n e (one op t) b at = ap (one_of op) (resolved-gives n e t b at)
  resolved-gives n e (two op x y) b at = rw (resolved-gives n e x b at, resolved-gives n e y b at) refl
  resolved-gives n e (pick op p t) b at = ap (pick_of op (e.source at (n.source b p))) (everywhere (λ m. resolved-gives n e t (n.base b p) (e.enter at (n.source b p) m)))

  resolved-gives-all : {B C R P C' R' P' S : Type 0} (n : Names B C R P C' R' P') (e : Env C' R' P' S) (ts : Trees C R P) (b : B) (at : S) → over_all e at (resolved_all n b ts) ≡ over_all (resolving_env n e) (b, at) ts
  resolved-gives-all n e no_trees b at = refl
  resolved-gives-all n e (tree t ts) b at = rw (resolved-gives n e t b at, resolved-gives-all n e ts b at) refl

  resolved-gives-cases : {B C R P C' R' P' S : Type 0} (n : Names B C R P C' R' P') (e : Env C' R' P' S) (cs : Cases C R P) (b : B) (at : S) → over_cases e at (resolved_cases n b cs) ≡ over_cases (resolving_env n e) (b, at) cs
  resolved-gives-cases n e no_cases b at = refl
  resolved-gives-cases n e (a_case t o cs) b at = rw (resolved-gives n e t b at, resolved-gives n e o b at, resolved-gives-cases n e cs b at) refl

mutual
  pub resolved-weighs : {B C R P C' R' P' S : Type 0} (n : Names B C R P C' R' P') (e : Env C' R' P' S) (t : Tree C R P) (b : B) (at : S) → weight e at (resolved n b t) ≡ weight (resolving_env n e) (b, at) t
  resolved-weighs n e (literal c) b at = refl
  resolved-weighs n e (read r) b at = refl
  resolved-weighs n e (switch cs) b at = ap suc (resolved-weighs-cases n e cs b at)
  resolved-weighs n e (many op ts) b at = ap suc (resolved-weighs-all n e ts b at)
  resolved-weighs n e (one op t) b at = ap suc (resolved-weighs n e t b at)
  resolved-weighs n e (two op x y) b at = rw (resolved-weighs n e x b at, resolved-weighs n e y b at) refl
  resolved-weighs n e (pick op p t) b at =
      ap (λ f. suc (sum_by f (members_of (e.source at (n.source b p))))) (everywhere (λ m. resolved-weighs n e t (n.base b p) (e.enter at (n.source b p) m)))

  resolved-weighs-all : {B C R P C' R' P' S : Type 0} (n : Names B C R P C' R' P') (e : Env C' R' P' S) (ts : Trees C R P) (b : B) (at : S) → weight_of_all e at (resolved_all n b ts) ≡ weight_of_all (resolving_env n e) (b, at) ts
  resolved-weighs-all n e no_trees b at = refl
  resolved-weighs-all n e (tree t ts) b at = rw (resolved-weighs n e t b at, resolved-weighs-all n e ts b at) refl

  resolved-weighs-cases : {B C R P C' R' P' S : Type 0} (n : Names B C R P C' R' P') (e : Env C' R' P' S) (cs : Cases C R P) (b : B) (at : S) → weight_of_cases e at (resolved_cases n b cs) ≡ weight_of_cases (resolving_env n e) (b, at) cs
  resolved-weighs-cases n e no_cases b at = refl
  resolved-weighs-cases n e (a_case t o cs) b at = rw (resolved-weighs n e t b at, resolved-weighs n e o b at, resolved-weighs-cases n e cs b at) refl

mutual
  pub resolved-reads : {B C R P C' R' P' S X : Type 0} (n : Names B C R P C' R' P') (e : Env C' R' P' S) (by : ReadBy R' P' S X) (t : Tree C R P) (b : B) (at : S)
      → slots_read e by at (resolved n b t) ≡ slots_read (resolving_env n e) (resolving_reads n by) (b, at) t
  resolved-reads n e by (literal c) b at = refl
  resolved-reads n e by (read r) b at = refl
  resolved-reads n e by (switch cs) b at = resolved-reads-cases n e by cs b at
  resolved-reads n e by (many op ts) b at = resolved-reads-all n e by ts b at
  resolved-reads n e by (one op t) b at = resolved-reads n e by t b at
  resolved-reads n e by (two op x y) b at = rw (resolved-reads n e by x b at, resolved-reads n e by y b at) refl
  resolved-reads n e by (pick op p t) b at =
      let source = e.source at (n.source b p) in
      let condition = λ (m : ℕ). over (resolving_env n e) (n.base b p, e.enter at (n.source b p) m) t in
      ap (λ f. by.source at (n.source b p) ++ flat_map f (members_visited op (λ m. over e (e.enter at (n.source b p) m) (resolved n (n.base b p) t)) source))
      (everywhere (λ m. resolved-reads n e by t (n.base b p) (e.enter at (n.source b p) m)))
      ∙ ap (λ f. by.source at (n.source b p) ++ flat_map (λ m. slots_read (resolving_env n e) (resolving_reads n by) (n.base b p, e.enter at (n.source b p) m) t) (members_visited op f source))
      (everywhere (λ m. resolved-gives n e t (n.base b p) (e.enter at (n.source b p) m)))

  resolved-reads-all : {B C R P C' R' P' S X : Type 0} (n : Names B C R P C' R' P') (e : Env C' R' P' S) (by : ReadBy R' P' S X) (ts : Trees C R P) (b : B) (at : S)
      → slots_read_of_all e by at (resolved_all n b ts) ≡ slots_read_of_all (resolving_env n e) (resolving_reads n by) (b, at) ts
  resolved-reads-all n e by no_trees b at = refl
  resolved-reads-all n e by (tree t ts) b at = rw (resolved-reads n e by t b at, resolved-reads-all n e by ts b at) refl

  resolved-reads-cases : {B C R P C' R' P' S X : Type 0} (n : Names B C R P C' R' P') (e : Env C' R' P' S) (by : ReadBy R' P' S X) (cs : Cases C R P) (b : B) (at : S)
      → slots_read_of_cases e by at (resolved_cases n b cs) ≡ slots_read_of_cases (resolving_env n e) (resolving_reads n by) (b, at) cs
  resolved-reads-cases n e by no_cases b at = refl
  resolved-reads-cases n e by (a_case t o cs) b at = rw (resolved-gives n e t b at, resolved-reads n e by t b at, resolved-reads n e by o b at, resolved-reads-cases n e by cs b at) refl
