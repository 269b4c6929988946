-- A result that is complete in one environment stays in another that keeps the complete results of its reads.
use Rattle.std.proofs.Common.{◌≡◌, ℕ, Bool, true, false, ◌&&◌, IsTrue, List, [], ◌∷◌}
use Rattle.fact_values.specs.declared.value.Value.{Value}
use Rattle.dict_source.specs.Tree.{Tree, literal, read, switch, many, one, two, pick, Trees, no_trees, tree, Cases, no_cases, a_case}
use Rattle.dict_source.specs.declared.operators.ManyOp.{ManyOp}
use Rattle.dict_source.specs.declared.operators.ManyOp.TheVariants.{All, Any, Add, Subtract, GreaterOf, LesserOf}
use Rattle.dict_source.specs.declared.operators.OneOp.{OneOp}
use Rattle.dict_source.specs.declared.operators.TwoOp.{TwoOp}
use Rattle.dict_source.specs.declared.operators.PickOp.{PickOp}
use Rattle.dict_source.specs.declared.operators.PickOp.TheVariants.{Filter, Find}
use Rattle.three_state.specs.declared.res.Res.{Res}
use Rattle.three_state.specs.declared.res.Res.TheVariants.{Complete, Incomplete}
use Rattle.three_state.specs.Order.{Keeps, KeepsAll}
use Rattle.three_state.specs.Results.{switch_of}
use Rattle.three_state.proofs.OrderLaws.{case_keeps, filter_keeps, find_keeps, junction_keeps, strict_keeps}
use Rattle.evaluation.specs.Operations.{many_value, on_one, on_two, one_value, two_value}
use Rattle.evaluation.specs.Over.{Env, over, over_all, over_cases, many_of, one_of, two_of, pick_of}
use Rattle.evaluation.specs.Order.{KeepsReads, KeepsReadsInAll, KeepsReadsInCases, KeepsTested, reads_pass, reads_pass_in_all, reads_pass_in_cases}
use Rattle.common_lemmas.proofs.Bools.{both}

keeps_itself : (r : Res) → Keeps r r
keeps_itself r = record { keeps = λ v e. e }

many_keeps : (op : ManyOp) (rs ss : List Res) → KeepsAll rs ss → Keeps (many_of op rs) (many_of op ss)
many_keeps All rs ss k = junction_keeps false rs ss k
many_keeps Any rs ss k = junction_keeps true rs ss k
many_keeps Add rs ss k = strict_keeps (many_value Add) rs ss k
many_keeps Subtract rs ss k = strict_keeps (many_value Subtract) rs ss k
many_keeps GreaterOf rs ss k = strict_keeps (many_value GreaterOf) rs ss k
many_keeps LesserOf rs ss k = strict_keeps (many_value LesserOf) rs ss k

one_keeps : (op : OneOp) (r s : Res) → Keeps r s → Keeps (one_of op r) (one_of op s)
one_keeps op r s k = strict_keeps (on_one (one_value op)) (r ∷ []) (s ∷ []) (k, tt)

two_keeps : (op : TwoOp) (a b a' b' : Res) → Keeps a a' → Keeps b b' → Keeps (two_of op a b) (two_of op a' b')
two_keeps op a b a' b' k l = strict_keeps (on_two (two_value op)) (a ∷ b ∷ []) (a' ∷ b' ∷ []) (k, (l, tt))

pick_keeps : (op : PickOp) (s s' : Res) (f g : ℕ → Res) → Keeps s s' → ((m : ℕ) → Keeps (f m) (g m)) → Keeps (pick_of op s f) (pick_of op s' g)
pick_keeps Filter s s' f g k h = filter_keeps s s' f g k h
pick_keeps Find s s' f g k h = find_keeps s s' f g k h

mutual
  pub over_keeps : {C R P S : Type 0} (e f : Env C R P S) (t : Tree C R P) (at : S) → KeepsReads e f at t → Keeps (over e at t) (over f at t)
  over_keeps e f (literal c) at h = rw h (keeps_itself (Complete (f.constant c)))
  over_keeps e f (read r) at h = h
  over_keeps e f (switch cs) at h = over_keeps_cases e f cs at h
  over_keeps e f (many op ts) at h = many_keeps op (over_all e at ts) (over_all f at ts) (over_keeps_all e f ts at h)
  over_keeps e f (one op t) at h = one_keeps op (over e at t) (over f at t) (over_keeps e f t at h)
  over_keeps e f (two op a b) at h = two_keeps op (over e at a) (over e at b) (over f at a) (over f at b) (over_keeps e f a at h.0) (over_keeps e f b at h.1)
  over_keeps e f (pick op p t) at h =
      pick_keeps op (e.source at p) (f.source at p) (λ m. over e (e.enter at p m) t) (λ m. over f (f.enter at p m) t) h.0
      (λ m. rw (← (h.1 m).0) (over_keeps e f t (e.enter at p m) (h.1 m).1))

  pub over_keeps_all : {C R P S : Type 0} (e f : Env C R P S) (ts : Trees C R P) (at : S) → KeepsReadsInAll e f at ts → KeepsAll (over_all e at ts) (over_all f at ts)
  over_keeps_all e f no_trees at h = tt
  over_keeps_all e f (tree t ts) at h = (over_keeps e f t at h.0, over_keeps_all e f ts at h.1)

  pub over_keeps_cases : {C R P S : Type 0} (e f : Env C R P S) (cs : Cases C R P) (at : S) → KeepsReadsInCases e f at cs → Keeps (switch_of (over_cases e at cs)) (switch_of (over_cases f at cs))
  over_keeps_cases e f no_cases at h = keeps_itself Incomplete
  over_keeps_cases e f (a_case t o cs) at h =
      case_keeps (over e at t) (over f at t) (over e at o) (over f at o) (switch_of (over_cases e at cs)) (switch_of (over_cases f at cs))
      (over_keeps e f t at h.0) (over_keeps e f o at h.1) (over_keeps_cases e f cs at h.2)

pub complete-stays : {C R P S : Type 0} (e f : Env C R P S) (t : Tree C R P) (at : S) → KeepsReads e f at t → (v : Value) → over e at t ≡ Complete v → over f at t ≡ Complete v
complete-stays e f t at h v is = (over_keeps e f t at h).keeps v is

-- ---- with a test of the reads

mutual
  keeps_tested : {C R P S : Type 0} (test : R → Bool) (e f : Env C R P S) → KeepsTested test e f → (t : Tree C R P) → IsTrue (reads_pass test t) → (at : S) → KeepsReads e f at t
  keeps_tested test e f k (literal c) h at = k.constant c
  keeps_tested test e f k (read r) h at = k.reads at r h
  keeps_tested test e f k (switch cs) h at = keeps_tested_cases test e f k cs h at
  keeps_tested test e f k (many op ts) h at = keeps_tested_all test e f k ts h at
  keeps_tested test e f k (one op t) h at = keeps_tested test e f k t h at
  keeps_tested test e f k (two op a b) h at =
      let hs = both (reads_pass test a) (reads_pass test b) h in
      (keeps_tested test e f k a hs.0 at, keeps_tested test e f k b hs.1 at)
  keeps_tested test e f k (pick op p t) h at = (k.source at p, λ m. (k.enter at p m, keeps_tested test e f k t h (e.enter at p m)))

  keeps_tested_all : {C R P S : Type 0} (test : R → Bool) (e f : Env C R P S) → KeepsTested test e f → (ts : Trees C R P) → IsTrue (reads_pass_in_all test ts) → (at : S) → KeepsReadsInAll e f at ts
  keeps_tested_all test e f k no_trees h at = tt
  keeps_tested_all test e f k (tree t ts) h at =
      let hs = both (reads_pass test t) (reads_pass_in_all test ts) h in
      (keeps_tested test e f k t hs.0 at, keeps_tested_all test e f k ts hs.1 at)

  keeps_tested_cases : {C R P S : Type 0} (test : R → Bool) (e f : Env C R P S) → KeepsTested test e f → (cs : Cases C R P) → IsTrue (reads_pass_in_cases test cs) → (at : S) → KeepsReadsInCases e f at cs
  keeps_tested_cases test e f k no_cases h at = tt
  keeps_tested_cases test e f k (a_case t o cs) h at =
      let hs = both (reads_pass test t) (reads_pass test o && reads_pass_in_cases test cs) h in
      let rest = both (reads_pass test o) (reads_pass_in_cases test cs) hs.1 in
      (keeps_tested test e f k t hs.0 at, keeps_tested test e f k o rest.0 at, keeps_tested_cases test e f k cs rest.1 at)

pub complete-stays-tested : {C R P S : Type 0} (test : R → Bool) (e f : Env C R P S) → KeepsTested test e f → (t : Tree C R P) → IsTrue (reads_pass test t) → (at : S) (v : Value)
    → over e at t ≡ Complete v → over f at t ≡ Complete v
complete-stays-tested test e f k t h at v is = complete-stays e f t at (keeps_tested test e f k t h at) v is
