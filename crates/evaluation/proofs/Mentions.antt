-- From what holds of each thing that an expression names to what it can read from its place.
use Rattle.std.proofs.Common.{◌≡◌, ℕ, List, [], ◌∷◌, ◌++◌}
use Rattle.dict_source.specs.Tree.{Tree, literal, read, switch, many, one, two, pick, Trees, no_trees, tree, Cases, no_cases, a_case}
use Rattle.three_state.specs.Order.{Keeps}
use Rattle.evaluation.specs.Agreement.{Agree, AgreeInAll, AgreeInCases}
use Rattle.dict_source.specs.Typing.{HasType, HaveTypes, HaveCaseTypes, Types}
use Rattle.fact_values.specs.declared.fact_type.FactType.{FactType}
use Rattle.fact_values.specs.declared.fact_type.FactType.TheVariants as types
use Rattle.evaluation.specs.ByBases.{AgreeIn, KeepsIn}
use Rattle.evaluation.specs.Mentioned.{AllOf, Each, EachInAll, EachInCases, HasBase, HasReadType, base_of, gather, gather_all, gather_cases}
use Rattle.evaluation.specs.Order.{KeepsReads, KeepsReadsInAll, KeepsReadsInCases}
use Rattle.evaluation.specs.Over.{Env, over, weight}
use Rattle.evaluation.proofs.Coincide.{coincide, weigh_same}
use Rattle.evaluation.proofs.OrderLaws.{over_keeps}

-- ---- agreement

mutual
  pub agree_in : {B C R P S : Type 0} (Q : B → R → Type 0) (W : B → P → Type 0) (on : B → P → B) (K : B → S → Type 0) (e f : Env C R P S) → AgreeIn Q W on K e f → (t : Tree C R P) (b : B) → Each Q W on b t → (at : S) → K b at → Agree e f at t
  agree_in Q W on K e f h (literal c) b k at l = h.constant c
  agree_in Q W on K e f h (read r) b k at l = h.reads b at l r k
  agree_in Q W on K e f h (switch cs) b k at l = agree_in_cases Q W on K e f h cs b k at l
  agree_in Q W on K e f h (many op ts) b k at l = agree_in_all Q W on K e f h ts b k at l
  agree_in Q W on K e f h (one op t) b k at l = agree_in Q W on K e f h t b k at l
  agree_in Q W on K e f h (two op x y) b k at l = (agree_in Q W on K e f h x b k.0 at l, agree_in Q W on K e f h y b k.1 at l)
  agree_in Q W on K e f h (pick op p t) b k at l =
      (h.source b at l p k.0, λ m i. (h.enter b at l p k.0 m i, agree_in Q W on K e f h t (on b p) k.1 (e.enter at p m) (h.reach b at l p k.0 m i)))

  agree_in_all : {B C R P S : Type 0} (Q : B → R → Type 0) (W : B → P → Type 0) (on : B → P → B) (K : B → S → Type 0) (e f : Env C R P S) → AgreeIn Q W on K e f → (ts : Trees C R P) (b : B) → EachInAll Q W on b ts → (at : S) → K b at → AgreeInAll e f at ts
  agree_in_all Q W on K e f h no_trees b k at l = tt
  agree_in_all Q W on K e f h (tree t ts) b k at l = (agree_in Q W on K e f h t b k.0 at l, agree_in_all Q W on K e f h ts b k.1 at l)

  agree_in_cases : {B C R P S : Type 0} (Q : B → R → Type 0) (W : B → P → Type 0) (on : B → P → B) (K : B → S → Type 0) (e f : Env C R P S) → AgreeIn Q W on K e f → (cs : Cases C R P) (b : B) → EachInCases Q W on b cs → (at : S) → K b at → AgreeInCases e f at cs
  agree_in_cases Q W on K e f h no_cases b k at l = tt
  agree_in_cases Q W on K e f h (a_case t o cs) b k at l = (agree_in Q W on K e f h t b k.0 at l, agree_in Q W on K e f h o b k.1 at l, agree_in_cases Q W on K e f h cs b k.2 at l)

pub coincide_in : {B C R P S : Type 0} (Q : B → R → Type 0) (W : B → P → Type 0) (on : B → P → B) (K : B → S → Type 0) (e f : Env C R P S) → AgreeIn Q W on K e f → (t : Tree C R P) (b : B) → Each Q W on b t → (at : S) → K b at → over e at t ≡ over f at t
coincide_in Q W on K e f h t b k at l = coincide e f t at (agree_in Q W on K e f h t b k at l)

pub weigh_same_in : {B C R P S : Type 0} (Q : B → R → Type 0) (W : B → P → Type 0) (on : B → P → B) (K : B → S → Type 0) (e f : Env C R P S) → AgreeIn Q W on K e f → (t : Tree C R P) (b : B) → Each Q W on b t → (at : S) → K b at → weight e at t ≡ weight f at t
weigh_same_in Q W on K e f h t b k at l = weigh_same e f t at (agree_in Q W on K e f h t b k at l)

-- ---- order

mutual
  pub keeps_reads_in : {B C R P S : Type 0} (Q : B → R → Type 0) (W : B → P → Type 0) (on : B → P → B) (K : B → S → Type 0) (e f : Env C R P S) → KeepsIn Q W on K e f → (t : Tree C R P) (b : B) → Each Q W on b t → (at : S) → K b at → KeepsReads e f at t
  keeps_reads_in Q W on K e f h (literal c) b k at l = h.constant c
  keeps_reads_in Q W on K e f h (read r) b k at l = h.reads b at l r k
  keeps_reads_in Q W on K e f h (switch cs) b k at l = keeps_reads_in_cases Q W on K e f h cs b k at l
  keeps_reads_in Q W on K e f h (many op ts) b k at l = keeps_reads_in_all Q W on K e f h ts b k at l
  keeps_reads_in Q W on K e f h (one op t) b k at l = keeps_reads_in Q W on K e f h t b k at l
  keeps_reads_in Q W on K e f h (two op x y) b k at l = (keeps_reads_in Q W on K e f h x b k.0 at l, keeps_reads_in Q W on K e f h y b k.1 at l)
  keeps_reads_in Q W on K e f h (pick op p t) b k at l =
      (h.source b at l p k.0, λ m. (h.enter b at l p k.0 m, keeps_reads_in Q W on K e f h t (on b p) k.1 (e.enter at p m) (h.reach b at l p k.0 m)))

  keeps_reads_in_all : {B C R P S : Type 0} (Q : B → R → Type 0) (W : B → P → Type 0) (on : B → P → B) (K : B → S → Type 0) (e f : Env C R P S) → KeepsIn Q W on K e f → (ts : Trees C R P) (b : B) → EachInAll Q W on b ts → (at : S) → K b at → KeepsReadsInAll e f at ts
  keeps_reads_in_all Q W on K e f h no_trees b k at l = tt
  keeps_reads_in_all Q W on K e f h (tree t ts) b k at l = (keeps_reads_in Q W on K e f h t b k.0 at l, keeps_reads_in_all Q W on K e f h ts b k.1 at l)

  keeps_reads_in_cases : {B C R P S : Type 0} (Q : B → R → Type 0) (W : B → P → Type 0) (on : B → P → B) (K : B → S → Type 0) (e f : Env C R P S) → KeepsIn Q W on K e f → (cs : Cases C R P) (b : B) → EachInCases Q W on b cs → (at : S) → K b at → KeepsReadsInCases e f at cs
  keeps_reads_in_cases Q W on K e f h no_cases b k at l = tt
  keeps_reads_in_cases Q W on K e f h (a_case t o cs) b k at l = (keeps_reads_in Q W on K e f h t b k.0 at l, keeps_reads_in Q W on K e f h o b k.1 at l, keeps_reads_in_cases Q W on K e f h cs b k.2 at l)

pub over_keeps_in : {B C R P S : Type 0} (Q : B → R → Type 0) (W : B → P → Type 0) (on : B → P → B) (K : B → S → Type 0) (e f : Env C R P S) → KeepsIn Q W on K e f → (t : Tree C R P) (b : B) → Each Q W on b t → (at : S) → K b at → Keeps (over e at t) (over f at t)
over_keeps_in Q W on K e f h t b k at l = over_keeps e f t at (keeps_reads_in Q W on K e f h t b k at l)

-- ---- what holds of all that is gathered holds at each read

pub all-left : {X : Type 0} (M : X → Type 0) (xs ys : List X) → AllOf M (xs ++ ys) → AllOf M xs
all-left M [] ys h = tt
all-left M (x ∷ xs) ys h = (h.0, all-left M xs ys h.1)

pub all-right : {X : Type 0} (M : X → Type 0) (xs ys : List X) → AllOf M (xs ++ ys) → AllOf M ys
all-right M [] ys h = h
all-right M (x ∷ xs) ys h = all-right M xs ys h.1

mutual
  pub each_gathered : {B C R P X : Type 0} (Q : B → R → Type 0) (W : B → P → Type 0) (on : B → P → B) (r : B → R → List X) (p : B → P → List X) (M : X → Type 0) (t : Tree C R P) (b : B) → Each Q W on b t → AllOf M (gather r p on b t)
      → Each (λ c x. Q c x × AllOf M (r c x)) (λ c x. W c x × AllOf M (p c x)) on b t
  each_gathered Q W on r p M (literal c) b k h = tt
  each_gathered Q W on r p M (read x) b k h = (k, h)
  each_gathered Q W on r p M (switch cs) b k h = each_gathered_cases Q W on r p M cs b k h
  each_gathered Q W on r p M (many op ts) b k h = each_gathered_all Q W on r p M ts b k h
  each_gathered Q W on r p M (one op t) b k h = each_gathered Q W on r p M t b k h
  each_gathered Q W on r p M (two op x y) b k h =
      (each_gathered Q W on r p M x b k.0 (all-left M (gather r p on b x) (gather r p on b y) h), each_gathered Q W on r p M y b k.1 (all-right M (gather r p on b x) (gather r p on b y) h))
  each_gathered Q W on r p M (pick op s t) b k h =
      ((k.0, all-left M (p b s) (gather r p on (on b s) t) h), each_gathered Q W on r p M t (on b s) k.1 (all-right M (p b s) (gather r p on (on b s) t) h))

  each_gathered_all : {B C R P X : Type 0} (Q : B → R → Type 0) (W : B → P → Type 0) (on : B → P → B) (r : B → R → List X) (p : B → P → List X) (M : X → Type 0) (ts : Trees C R P) (b : B) → EachInAll Q W on b ts → AllOf M (gather_all r p on b ts)
      → EachInAll (λ c x. Q c x × AllOf M (r c x)) (λ c x. W c x × AllOf M (p c x)) on b ts
  each_gathered_all Q W on r p M no_trees b k h = tt
  each_gathered_all Q W on r p M (tree t ts) b k h =
      (each_gathered Q W on r p M t b k.0 (all-left M (gather r p on b t) (gather_all r p on b ts) h), each_gathered_all Q W on r p M ts b k.1 (all-right M (gather r p on b t) (gather_all r p on b ts) h))

  each_gathered_cases : {B C R P X : Type 0} (Q : B → R → Type 0) (W : B → P → Type 0) (on : B → P → B) (r : B → R → List X) (p : B → P → List X) (M : X → Type 0) (cs : Cases C R P) (b : B) → EachInCases Q W on b cs → AllOf M (gather_cases r p on b cs)
      → EachInCases (λ c x. Q c x × AllOf M (r c x)) (λ c x. W c x × AllOf M (p c x)) on b cs
  each_gathered_cases Q W on r p M no_cases b k h = tt
  each_gathered_cases Q W on r p M (a_case t o cs) b k h =
      let rest : AllOf M (gather r p on b o ++ gather_cases r p on b cs) = all-right M (gather r p on b t) (gather r p on b o ++ gather_cases r p on b cs) h in (
        each_gathered Q W on r p M t b k.0 (all-left M (gather r p on b t) (gather r p on b o ++ gather_cases r p on b cs) h),
        each_gathered Q W on r p M o b k.1 (all-left M (gather r p on b o) (gather_cases r p on b cs) rest),
        each_gathered_cases Q W on r p M cs b k.2 (all-right M (gather r p on b o) (gather_cases r p on b cs) rest),
      )

-- ---- each read of a typed expression has a type, and each collection a base

mutual
  pub typed_each : {C R P : Type 0} (ty : Types C R P) (t : Tree C R P) (b : ℕ) (u : FactType) → HasType ty b t u → Each (HasReadType ty) (HasBase ty) (base_of ty) b t
  typed_each ty (literal c) b u h = tt
  typed_each ty (read r) b u h = (u, h)
  typed_each ty (switch cs) b u h = typed_each_cases ty cs b u h.1
  typed_each ty (many op ts) b u h = typed_each_all ty ts b h.0 h.1
  typed_each ty (one op t) b u h = typed_each ty t b h.0 h.1
  typed_each ty (two op x y) b u h = (typed_each ty x b h.0 h.2, typed_each ty y b h.1 h.3)
  typed_each ty (pick op p t) b u h = ((h.0, h.1), rw h.1 (typed_each ty t h.0 types.Boolean h.2))

  typed_each_all : {C R P : Type 0} (ty : Types C R P) (ts : Trees C R P) (b : ℕ) (us : List FactType) → HaveTypes ty b ts us → EachInAll (HasReadType ty) (HasBase ty) (base_of ty) b ts
  typed_each_all ty no_trees b us h = tt
  typed_each_all ty (tree t ts) b [] h = absurd h
  typed_each_all ty (tree t ts) b (u ∷ us) h = (typed_each ty t b u h.0, typed_each_all ty ts b us h.1)

  typed_each_cases : {C R P : Type 0} (ty : Types C R P) (cs : Cases C R P) (b : ℕ) (u : FactType) → HaveCaseTypes ty b cs u → EachInCases (HasReadType ty) (HasBase ty) (base_of ty) b cs
  typed_each_cases ty no_cases b u h = tt
  typed_each_cases ty (a_case t o cs) b u h = (typed_each ty t b types.Boolean h.0, typed_each ty o b u h.1, typed_each_cases ty cs b u h.2)
