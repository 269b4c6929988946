-- A tree with its constants, reads and collections replaced: names become what they stand for.
use Rattle.std.specs.Prelude.{◌≡◌}
use Rattle.dict_source.specs.Tree.{Tree, literal, read, switch, many, one, two, pick, Trees, no_trees, tree, Cases, no_cases, a_case}
use Rattle.evaluation.specs.Over.{Env, over, weight}
use Rattle.evaluation.specs.SlotsRead.{ReadBy, slots_read}

-- what names stand for, under a base of type B: that of the innermost condition
pub record Names (B C R P C' R' P' : Type 0) : Type 0 where
  pub constant : C → C'
  pub reads : B → R → R'
  pub source : B → P → P'
  -- the base of a condition, from the base that its node stands under, and its collection
  pub base : B → P → B

abbrev mutual
  pub resolved : {B C R P C' R' P' : Type 0} → Names B C R P C' R' P' → B → Tree C R P → Tree C' R' P'
  resolved n b (literal c) = literal (n.constant c)
  resolved n b (read r) = read (n.reads b r)
  resolved n b (switch cs) = switch (resolved_cases n b cs)
  resolved n b (many op ts) = many op (resolved_all n b ts)
  resolved n b (one op t) = one op (resolved n b t)
  resolved n b (two op x y) = two op (resolved n b x) (resolved n b y)
  resolved n b (pick op p t) = pick op (n.source b p) (resolved n (n.base b p) t)

  pub resolved_all : {B C R P C' R' P' : Type 0} → Names B C R P C' R' P' → B → Trees C R P → Trees C' R' P'
  resolved_all n b no_trees = no_trees
  resolved_all n b (tree t ts) = tree (resolved n b t) (resolved_all n b ts)

  pub resolved_cases : {B C R P C' R' P' : Type 0} → Names B C R P C' R' P' → B → Cases C R P → Cases C' R' P'
  resolved_cases n b no_cases = no_cases
  resolved_cases n b (a_case t o cs) = a_case (resolved n b t) (resolved n b o) (resolved_cases n b cs)

-- the environment that resolves names as it meets them: its place has the base beside the place
abbrev pub resolving_env : {B C R P C' R' P' S : Type 0} → Names B C R P C' R' P' → Env C' R' P' S → Env C R P (B × S)
resolving_env n e = record {
  constant = λ c. e.constant (n.constant c);
  reads = λ at r. e.reads at.1 (n.reads at.0 r);
  source = λ at p. e.source at.1 (n.source at.0 p);
  enter = λ at p m. (n.base at.0 p, e.enter at.1 (n.source at.0 p) m);
}

-- what is read, likewise
abbrev pub resolving_reads : {B C R P C' R' P' S X : Type 0} → Names B C R P C' R' P' → ReadBy R' P' S X → ReadBy R P (B × S) X
resolving_reads n by = record {
  reads = λ at r. by.reads at.1 (n.reads at.0 r);
  source = λ at p. by.source at.1 (n.source at.0 p);
}

-- ---- laws

abbrev pub ResolvedGives : (B C R P C' R' P' S : Type 0) → Type 0
ResolvedGives B C R P C' R' P' S =
    (n : Names B C R P C' R' P') (e : Env C' R' P' S) (t : Tree C R P) (b : B) (at : S)
    → over e at (resolved n b t) ≡ over (resolving_env n e) (b, at) t

abbrev pub ResolvedWeighs : (B C R P C' R' P' S : Type 0) → Type 0
ResolvedWeighs B C R P C' R' P' S =
    (n : Names B C R P C' R' P') (e : Env C' R' P' S) (t : Tree C R P) (b : B) (at : S)
    → weight e at (resolved n b t) ≡ weight (resolving_env n e) (b, at) t

abbrev pub ResolvedReads : (B C R P C' R' P' S X : Type 0) → Type 0
ResolvedReads B C R P C' R' P' S X =
    (n : Names B C R P C' R' P') (e : Env C' R' P' S) (by : ReadBy R' P' S X) (t : Tree C R P) (b : B) (at : S)
    → slots_read e by at (resolved n b t) ≡ slots_read (resolving_env n e) (resolving_reads n by) (b, at) t
