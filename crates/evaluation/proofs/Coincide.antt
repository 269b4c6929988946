-- Two environments that agree on what an expression reads give it one result, and one weight.
use Rattle.std.proofs.Common.{◌≡◌, ℕ, suc, nat_eq, List, [], ◌∷◌, map, sum_by, Ok, refl, sym, ap, ◌∙◌}
use Rattle.std.specs.List.{list_any}
use Rattle.std.proofs.lemmas.List.Sums.{sum_by-cons}
use Rattle.std.proofs.lemmas.Bool.{eq-eqb}
use Rattle.fact_values.specs.declared.value.Value.TheVariants.{Members}
use Rattle.dict_source.specs.Tree.{Tree, literal, read, switch, many, one, two, pick, Trees, no_trees, tree, Cases, no_cases, a_case}
use Rattle.dict_source.specs.declared.operators.PickOp.{PickOp}
use Rattle.dict_source.specs.declared.operators.PickOp.TheVariants.{Filter, Find}
use Rattle.three_state.specs.declared.res.Res.{Res}
use Rattle.three_state.specs.declared.res.Res.TheVariants.{Complete, Placeholder, Incomplete, Fault}
use Rattle.three_state.specs.Results.{down, filter_members, find_cases, find_member, kept, members_in, members_of, strict, switch_of, through}
use Rattle.evaluation.specs.Over.{Env, over, over_all, over_cases, many_of, one_of, two_of, pick_of, weight, weight_of_all, weight_of_cases}
use Rattle.evaluation.specs.Agreement.{IsIn, Agree, AgreeInAll, AgreeInCases}
use Rattle.common_lemmas.proofs.Bools.{or_left, or_right}

-- ---- members of a list

pub is_head : (m : ℕ) (ms : List ℕ) → IsIn (m ∷ ms) m
is_head m ms = or_left (nat_eq m m) (list_any (nat_eq m) ms) (eq-eqb m m refl)

pub is_behind : (m : ℕ) (ms : List ℕ) (k : ℕ) → IsIn ms k → IsIn (m ∷ ms) k
is_behind m ms k i = or_right (nat_eq k m) (list_any (nat_eq k) ms) i

-- ---- rules that list members

-- what is the same at each listed member
abbrev pub SameAt : {A : Type 0} → (ℕ → A) → (ℕ → A) → List ℕ → Type 0
SameAt f g ms = (m : ℕ) → IsIn ms m → f m ≡ g m

same_behind : {A : Type 0} (f g : ℕ → A) (m : ℕ) (ms : List ℕ) → SameAt f g (m ∷ ms) → SameAt f g ms
same_behind f g m ms h k i = h k (is_behind m ms k i)

pub map_same : {A : Type 0} (f g : ℕ → A) (ms : List ℕ) → SameAt f g ms → map f ms ≡ map g ms
map_same f g [] h = refl
map_same f g (m ∷ ms) h = rw (h m (is_head m ms), map_same f g ms (same_behind f g m ms h)) refl

kept_same : (f g : ℕ → Res) (ms : List ℕ) → SameAt f g ms → kept f ms ≡ kept g ms
kept_same f g [] h = refl
kept_same f g (m ∷ ms) h = rw (h m (is_head m ms), kept_same f g ms (same_behind f g m ms h)) refl

filter_members_same : (f g : ℕ → Res) (ms : List ℕ) → SameAt f g ms → filter_members f ms ≡ filter_members g ms
filter_members_same f g ms h =
    ap (λ ks. strict (λ _. Ok (Members ks)) (map f ms)) (kept_same f g ms h) ∙ ap (λ rs. strict (λ _. Ok (Members (kept g ms))) rs) (map_same f g ms h)

find_cases_same : (f g : ℕ → Res) (ms : List ℕ) → SameAt f g ms → find_cases f ms ≡ find_cases g ms
find_cases_same f g [] h = refl
find_cases_same f g (m ∷ ms) h = rw (h m (is_head m ms), find_cases_same f g ms (same_behind f g m ms h)) refl

find_member_same : (f g : ℕ → Res) (ms : List ℕ) → SameAt f g ms → find_member f ms ≡ find_member g ms
find_member_same f g ms h = ap switch_of (find_cases_same f g ms h)

pub through_same : (source : Res) (f g : List ℕ → Res) → f (members_of source) ≡ g (members_of source) → through source (λ v. f (members_in v)) ≡ through source (λ v. g (members_in v))
through_same (Complete v) f g h = h
through_same (Placeholder v) f g h = ap down h
through_same Incomplete f g h = refl
through_same (Fault fault) f g h = refl

pub pick_same : (op : PickOp) (source : Res) (f g : ℕ → Res) → SameAt f g (members_of source) → pick_of op source f ≡ pick_of op source g
pick_same Filter source f g h = through_same source (filter_members f) (filter_members g) (filter_members_same f g (members_of source) h)
pick_same Find source f g h = through_same source (find_member f) (find_member g) (find_member_same f g (members_of source) h)

pub sum_same : (f g : ℕ → ℕ) (ms : List ℕ) → SameAt f g ms → sum_by f ms ≡ sum_by g ms
sum_same f g [] h = refl
sum_same f g (m ∷ ms) h = sum_by-cons f m ms ∙ rw (h m (is_head m ms), sum_same f g ms (same_behind f g m ms h)) (sym (sum_by-cons g m ms))

-- ---- the result

mutual
  pub coincide : {C R P S : Type 0} (e f : Env C R P S) (t : Tree C R P) (at : S) → Agree e f at t → over e at t ≡ over f at t
  coincide e f (literal c) at h = ap Complete h
  coincide e f (read r) at h = h
  coincide e f (switch cs) at h = ap switch_of (coincide_cases e f cs at h)
  coincide e f (many op ts) at h = ap (many_of op) (coincide_all e f ts at h)
  coincide e f (one op t) at h = ap (one_of op) (coincide e f t at h)
  coincide e f (two op a b) at h = ap (λ r. two_of op r (over e at b)) (coincide e f a at h.0) ∙ ap (two_of op (over f at a)) (coincide e f b at h.1)
  coincide e f (pick op p t) at h =
      pick_same op (e.source at p) (λ m. over e (e.enter at p m) t) (λ m. over f (f.enter at p m) t)
      (λ m i. coincide e f t (e.enter at p m) (h.1 m i).1 ∙ ap (λ to. over f to t) (h.1 m i).0)
      ∙ ap (λ source. pick_of op source (λ m. over f (f.enter at p m) t)) h.0

  pub coincide_all : {C R P S : Type 0} (e f : Env C R P S) (ts : Trees C R P) (at : S) → AgreeInAll e f at ts → over_all e at ts ≡ over_all f at ts
  coincide_all e f no_trees at h = refl
  coincide_all e f (tree t ts) at h = rw (coincide e f t at h.0, coincide_all e f ts at h.1) refl

  pub coincide_cases : {C R P S : Type 0} (e f : Env C R P S) (cs : Cases C R P) (at : S) → AgreeInCases e f at cs → over_cases e at cs ≡ over_cases f at cs
  coincide_cases e f no_cases at h = refl
  coincide_cases e f (a_case t o cs) at h = rw (coincide e f t at h.0, coincide e f o at h.1, coincide_cases e f cs at h.2) refl

-- ---- the weight

mutual
  pub weigh_same : {C R P S : Type 0} (e f : Env C R P S) (t : Tree C R P) (at : S) → Agree e f at t → weight e at t ≡ weight f at t
  weigh_same e f (literal c) at h = refl
  weigh_same e f (read r) at h = refl
  weigh_same e f (switch cs) at h = ap suc (weigh_same_cases e f cs at h)
  weigh_same e f (many op ts) at h = ap suc (weigh_same_all e f ts at h)
  weigh_same e f (one op t) at h = ap suc (weigh_same e f t at h)
  weigh_same e f (two op a b) at h = rw (weigh_same e f a at h.0, weigh_same e f b at h.1) refl
  weigh_same e f (pick op p t) at h =
      ap suc (
      sum_same (λ m. weight e (e.enter at p m) t) (λ m. weight f (f.enter at p m) t) (members_of (e.source at p))
      (λ m i. weigh_same e f t (e.enter at p m) (h.1 m i).1 ∙ ap (λ to. weight f to t) (h.1 m i).0)
      ∙ ap (λ source. sum_by (λ m. weight f (f.enter at p m) t) (members_of source)) h.0
      )

  pub weigh_same_all : {C R P S : Type 0} (e f : Env C R P S) (ts : Trees C R P) (at : S) → AgreeInAll e f at ts → weight_of_all e at ts ≡ weight_of_all f at ts
  weigh_same_all e f no_trees at h = refl
  weigh_same_all e f (tree t ts) at h = rw (weigh_same e f t at h.0, weigh_same_all e f ts at h.1) refl

  pub weigh_same_cases : {C R P S : Type 0} (e f : Env C R P S) (cs : Cases C R P) (at : S) → AgreeInCases e f at cs → weight_of_cases e at cs ≡ weight_of_cases f at cs
  weigh_same_cases e f no_cases at h = refl
  weigh_same_cases e f (a_case t o cs) at h = rw (weigh_same e f t at h.0, weigh_same e f o at h.1, weigh_same_cases e f cs at h.2) refl
